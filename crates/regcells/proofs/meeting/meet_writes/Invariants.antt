use Rattle.std.proofs.Common.{◌≡◌, ◌<◌, ℕ, Some}
use Rattle.std.specs.Prelude.{slice_get}
use Rattle.turn.specs.declared.log.TurnChange.{TurnChange}
use Rattle.regcells.specs.Meetings.{fresh_of, Met}
use Rattle.regcells.proofs.meeting.meet_writes.Given as goal

abbrev pub invariant-loop-place : goal.invariant-loop-place
invariant-loop-place g l =
    (l.holder ≡ l.initial.holder)
    × (l.seat.cells ≡ l.initial.seat.cells)
    × Met l.initial.seat.seen l.initial.holder.seen l.seat.seen
    × ((k : ℕ) (n : TurnChange) → k < l.place → slice_get l.turn_changes k ≡ Some n → fresh_of l.seat.seen n.register ≡ fresh_of l.initial.holder.seen n.register)
