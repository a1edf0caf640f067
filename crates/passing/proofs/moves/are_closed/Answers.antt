-- Each is led through.
use Rattle.std.proofs.Common.{◌<◌, length, subst, arith}
use Rattle.std.specs.List.{All}
use Rattle.std.proofs.lemmas.List.{get_or_default}
use Rattle.certificates.specs.declared.changes.NotedChange.{NotedChange}
use Rattle.settling.proofs.Listed.{upto_more}
use Rattle.passing.specs.Moves.{LeadsThrough}
use Rattle.passing.proofs.moves.are_closed.Goals as goal

pub loop-place-preserved : goal.loop-place-preserved
loop-place-preserved c =
    let list = c.args.list.now in
    let i = c.loop-place.place in
    let within : i < length list = omega arith in
    let IsLed = λ (one : NotedChange). All (LeadsThrough list one) list in
    upto_more IsLed list i c.loop-place.invariant (λ d. subst IsLed (get_or_default list i c.index-list-place.result d within) (subst IsLed c.index-list-place.is (c.goes_on.ensures c.if-not-goes_on.false)))

pub returns : goal.returns
returns c = λ on k d within. c.loop-place.invariant k d (omega (arith, within))
