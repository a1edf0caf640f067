use Rattle.std.proofs.Common.{arith}
use Rattle.regcells.proofs.Places.{within}
use Rattle.regcells.proofs.meeting.first_moved.Goals as goal

pub meet-last-requires-clause-register : goal.meet-last-requires-clause-register
meet-last-requires-clause-register g c = c.requires.reads c.loop-place.place (c.read_at-register.result.0, c.read_at-register.result.1) c.read_at-register.ensures

pub returns-clause-none : goal.returns-clause-none
returns-clause-none g c k d at =
    let low = within c.args.reads.now.entries k d at in
    c.loop-place.invariant.current k d (omega (arith, c.loop-place-test.false, c.len-place-end.ensures, low)) at

pub returns-clause-all : goal.returns-clause-all
returns-clause-all g c k d at =
    let low = within c.args.reads.now.entries k d at in
    c.loop-place.invariant.seen k d (omega (arith, c.loop-place-test.false, c.len-place-end.ensures, low)) at
