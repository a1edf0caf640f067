use Rattle.std.proofs.Common.{◌≡◌, ◌<◌, length, arith}
use Rattle.regcells.specs.Meetings.{fresh_of}
use Rattle.regcells.proofs.Places.{within}
use Rattle.regcells.proofs.TurnChangeRegisters.{turn_changes_in, writes_in}
use Rattle.regcells.proofs.meeting.meet_writes.Goals as goal

pub meet-requires-clause-register : goal.meet-requires-clause-register
meet-requires-clause-register g c =
    turn_changes_in (λ r. r < length c.args.cells.now) c.args.turn_changes.now c.args.writes.now c.requires.turn_changes c.requires.writes c.loop-place.place c.turn_change_at-turn_change.result.now c.turn_change_at-turn_change.ensures

pub returns-clause-all : goal.returns-clause-all
returns-clause-all g c =
    writes_in (λ r. fresh_of c.loop-place.seat.seen r ≡ fresh_of c.args.holder.now.seen r) c.args.turn_changes.now c.args.writes.now c.requires.turn_changes
    (λ k n at.
    let low = within c.args.turn_changes.now k n at in
    c.loop-place.invariant.3 k n (omega (arith, c.loop-place-test.false, low)) at)
