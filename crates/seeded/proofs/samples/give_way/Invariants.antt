-- Those that are left are some of those that were kept, and all that came to their ends.
use Rattle.std.proofs.Common.{◌≡◌, ◌≤◌, ◌⊎◌, vec_len}
use Rattle.std.specs.Prelude.{vec_capacity}
use Rattle.std.specs.List.{All, AllPairs, Contains}
use Rattle.runs.specs.Compared.{AreDifferentRuns}
use Rattle.seeded.specs.Samples.{AreStillIn, GivesWay}
use Rattle.seeded.proofs.samples.give_way.Given as goal

abbrev pub decreases-loop-place : goal.decreases-loop-place
decreases-loop-place l = vec_len l.kept

abbrev pub invariant-loop-place : goal.invariant-loop-place
invariant-loop-place l = record {
  other : All (λ one. AreDifferentRuns one l.run ⊎ GivesWay one l.run) l.kept.items;
  apart : AllPairs AreDifferentRuns l.kept.items;
  from : All (Contains l.fn.kept.items) l.kept.items;
  whole : AreStillIn l.fn.kept.items l.kept.items;
  few : vec_len l.kept ≤ vec_len l.fn.kept;
  capacity : vec_capacity l.kept ≡ vec_capacity l.fn.kept;
}
