-- What is kept so far.
use Rattle.std.proofs.Common.{◌≤◌, vec_len}
use Rattle.std.specs.List.{All, AllPairs}
use Rattle.runs.specs.RunRecords.{IsRun}
use Rattle.runs.specs.Compared.{AreDifferentRuns, WantsNoMemory}
use Rattle.seeded.specs.Seeds.{AreSampled}
use Rattle.seeded.proofs.samples.sample.Given as goal

abbrev pub invariant-loop-made : goal.invariant-loop-made
invariant-loop-made g l = record {
  runs : All (IsRun l.design l.limits) l.kept.items;
  apart : AllPairs AreDifferentRuns l.kept.items;
  ended : All WantsNoMemory l.kept.items;
  sampled : AreSampled l.design l.limits l.seeds.first l.made l.kept.items;
  most : vec_len l.kept ≤ l.bounds.kept;
  kept : vec_len l.kept ≤ l.made;
}
