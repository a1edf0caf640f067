-- Each leads through.
use Rattle.std.proofs.Common.{◌<◌, length, subst, arith}
use Rattle.std.proofs.lemmas.List.{get_or_default}
use Rattle.settling.proofs.Listed.{upto_more}
use Rattle.passing.specs.Moves.{LeadsThrough}
use Rattle.passing.proofs.moves.goes_on.Goals as goal

pub loop-place-preserved : goal.loop-place-preserved
loop-place-preserved c =
    let list = c.args.list.now in
    let i = c.loop-place.place in
    let within : i < length list = omega arith in
    let Leads = LeadsThrough list c.args.one.now in
    upto_more Leads list i c.loop-place.invariant (λ d. subst Leads (get_or_default list i c.index-list-place.result d within) (subst Leads c.index-list-place.is (c.goes_on_by.ensures c.if-not-goes_on_by.false)))

pub returns : goal.returns
returns c = λ on k d within. c.loop-place.invariant k d (omega (arith, within))
