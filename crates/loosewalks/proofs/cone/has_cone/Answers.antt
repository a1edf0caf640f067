-- Each has its outputs in the cone, or isn't moved.
use Rattle.std.proofs.Common.{◌<◌, length, subst, arith}
use Rattle.std.proofs.lemmas.List.{get_or_default}
use Rattle.settling.proofs.Listed.{upto_more}
use Rattle.settling.proofs.Listed.{all_there}
use Rattle.loosewalks.specs.Held.{HasConeAt}
use Rattle.loosewalks.proofs.cone.has_cone.Goals as goal

pub loop-process-preserved : goal.loop-process-preserved
loop-process-preserved c =
    let held = c.args.held.now in
    let Has = HasConeAt c.args.network.now c.args.pending.now c.args.touched.now c.args.cone.now in
    let i = c.loop-process.process-index in
    let within : i < length held = omega arith in
    upto_more Has held i c.loop-process.invariant (λ d. subst Has (get_or_default held i 0 d within) (c.has_cone_at.ensures c.if-not-has_cone_at.false))

pub returns : goal.returns
returns c = λ on p there.
    all_there (HasConeAt c.args.network.now c.args.pending.now c.args.touched.now c.args.cone.now) c.args.held.now p (λ k d within. c.loop-process.invariant k d (omega (arith, within))) there
