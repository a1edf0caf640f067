-- What the type of a seat keeps.
use Rattle.std.specs.Prelude.{◌≡◌, ℕ, ◌<◌, length}
use Rattle.atomic_table.specs.Seated.{TableId}
use Rattle.regcells.specs.CellSeats as regs
use Rattle.runstate.specs.declared.mark.MarkView.{MarkView}
use Rattle.commitgate.specs.Named.{Named}
use Rattle.runstate.specs.Ledger.{entries_of}
use Rattle.runstate.specs.Marked.{seated, Owns}

-- Its passes are of its gate's mark and registers; its numbers are those of the entries that it has seen and of those that
-- it appended; and what it says of its own items is so in what it has seen.
pub record SeatInvariant (n : Named) (worker entries share : ℕ) (fresh : regs.Fresh) (mark : TableId) (view : MarkView) : Type 0 where
  pub mark_is : mark ≡ n.mark
  pub cells_are : fresh.cells ≡ n.cells
  pub plain : view ≡ seated worker view.positions view.stored view.seen
  pub below : worker < n.workers
  pub entries_are : entries ≡ length (entries_of view.seen)
  pub share_is : share ≡ length view.positions
  pub owns : Owns view.seen view
