use Rattle.std.proofs.Common.{◌≡◌, ◌<◌, ℕ, Some}
use Rattle.std.specs.Prelude.{slice_get}
use Rattle.turn.specs.declared.memory.Seen.{Seen}
use Rattle.regcells.specs.Meetings.{fresh_of, Met}
use Rattle.regcells.proofs.meeting.meet_reads.Given as goal

abbrev pub invariant-loop-place : goal.invariant-loop-place
invariant-loop-place g l =
    (l.holder ≡ l.initial.holder)
    × (l.seat.cells ≡ l.initial.seat.cells)
    × Met l.initial.seat.seen l.initial.holder.seen l.seat.seen
    × ((k : ℕ) (d : ℕ × Seen) → k < l.place → slice_get l.reads.entries k ≡ Some d → fresh_of l.seat.seen d.0 ≡ fresh_of l.initial.holder.seen d.0)
