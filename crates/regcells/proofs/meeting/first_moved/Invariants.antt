use Rattle.std.proofs.Common.{◌≡◌, ◌<◌, ℕ, Some}
use Rattle.std.specs.Prelude.{slice_get}
use Rattle.turn.specs.declared.memory.Seen.{Seen}
use Rattle.regcells.specs.Meetings.{fresh_of, IsCurrentOf, Met}
use Rattle.regcells.proofs.meeting.first_moved.Given as goal

abbrev pub invariant-loop-place : goal.invariant-loop-place
invariant-loop-place g l = record {
  same : l.holder ≡ l.initial.holder;
  cells : l.seat.cells ≡ l.initial.seat.cells;
  met : Met l.initial.seat.seen l.initial.holder.seen l.seat.seen;
  current : (k : ℕ) (d : ℕ × Seen) → k < l.place → slice_get l.reads.entries k ≡ Some d → IsCurrentOf l.initial.holder.seen d;
  seen : (k : ℕ) (d : ℕ × Seen) → k < l.place → slice_get l.reads.entries k ≡ Some d → fresh_of l.seat.seen d.0 ≡ fresh_of l.initial.holder.seen d.0;
}
