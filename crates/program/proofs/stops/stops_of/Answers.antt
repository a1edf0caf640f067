-- One text more, until none is left.
use Rattle.std.proofs.Common.{◌≡◌, ◌+◌, ◌++◌, ◌<◌, length, subst, arith}
use Rattle.model.specs.declared.entry.Entry.{Entry}
use Rattle.model.specs.declared.end.End.{End}
use Rattle.explore.specs.declared.Shown.{Shown}
use Rattle.program.specs.Findings.{stop_cause, stop_in_text, stops_from}
use Rattle.program.proofs.StopsMore.{stops_more}
use Rattle.program.proofs.stops.stops_of.Goals as goal

pub loop-place-preserved : goal.loop-place-preserved
loop-place-preserved c =
    let shown = c.args.shown.now in
    let place = c.loop-place.place in
    let item = c.index-shown-place.result in
    stops_more shown place item c.loop-place.stops.items c.push_stop.new.stops.items (stops_from 1 shown) (omega arith)
    (subst (λ (s : Shown Entry End). c.push_stop.new.stops.items ≡ c.loop-place.stops.items ++ stop_in_text (place + 1) (length s.moves.items + 1) (stop_cause s.end)) c.index-shown-place.is c.in_ok-push_stop.ensures)
    c.loop-place.invariant
