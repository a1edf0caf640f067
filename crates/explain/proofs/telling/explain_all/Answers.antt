-- One entry after another, to the last or to the fault.
use Rattle.std.proofs.Common.{◌≡◌, ℕ, length, subst, arith}
use Rattle.explain.specs.Sent.{IsToldTo}
use Rattle.explain.proofs.telling.explain_all.Goals as goal

pub returns-clause-told : goal.returns-clause-told
returns-clause-told g c =
    let ended : c.loop-at.at ≡ length c.args.entries.now = omega arith in
    subst (λ (n : ℕ). IsToldTo c.args.telling.now c.args.entries.now n c.loop-at.explainer (g.W.Write.contents c.args.out.now) (g.W.Write.contents c.loop-at.out) c.loop-at.text.items) ended c.loop-at.invariant

pub loop-at-preserved : goal.loop-at-preserved
loop-at-preserved g c = c.in-Ok.ensures.told (g.W.Write.contents c.args.out.now) c.loop-at.invariant
