-- The first writes were made, and told.
use Rattle.std.proofs.Common.{◌≡◌, length, drop}
use Rattle.steps.proofs.Writes.{AreWrittenTo}
use Rattle.steps.proofs.cells.change_all.Given as goal

abbrev pub invariant-loop-write : goal.invariant-loop-write
invariant-loop-write l = record {
  written : AreWrittenTo l.fn.cells.items l.writes (drop l.write-index l.writes) l.fn.changes.items l.cells.items l.changes.items;
  registers : length l.cells.items ≡ length l.fn.cells.items;
}
