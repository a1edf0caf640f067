-- Each is none for which it waits.
use Rattle.std.proofs.Common.{◌<◌, length, subst, arith}
use Rattle.std.proofs.lemmas.List.{get_or_default}
use Rattle.settling.proofs.Listed.{upto_more}
use Rattle.passing.proofs.Deaf.{IsQuietAt}
use Rattle.passing.proofs.sleepers.is_quiet.Goals as goal

pub loop-place-preserved : goal.loop-place-preserved
loop-place-preserved c =
    let list = c.args.list.now in
    let i = c.loop-place.place in
    let within : i < length list = omega arith in
    let Is = IsQuietAt c.args.control.now in
    upto_more Is list i c.loop-place.invariant (λ d. subst Is (get_or_default list i c.index-list-place.result d within) (subst Is c.index-list-place.is (c.may_wait_for.ensures c.if-may_wait_for.false)))

pub returns : goal.returns
returns c = λ on k d within. c.loop-place.invariant k d (omega (arith, within))
