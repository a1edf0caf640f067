-- Each register is tracked.
use Rattle.std.proofs.Common.{◌≡◌, ◌<◌, ◌∙◌, ℕ, true, List, length, get_or, sym, subst, arith}
use Rattle.std.specs.List.{All}
use Rattle.std.proofs.lemmas.List.{get_or_default}
use Rattle.model.specs.Design.{Trigger}
use Rattle.model.specs.declared.tree.Change.TheVariants.{Any}
use Rattle.model.specs.Turns.{contains}
use Rattle.settling.proofs.Listed.{upto_more}
use Rattle.passing.proofs.sleepers.is_tracked.Goals as goal

pub loop-place-preserved : goal.loop-place-preserved
loop-place-preserved c =
    let list = c.triggers-triggers.result.now in
    let i = c.loop-place.place in
    let within : i < length list = omega arith in
    let first : Trigger = (Any, 0) in
    let Is = λ (t : Trigger). contains c.args.moves.now.tracked.items t.1 ≡ true in
    upto_more Is list i c.loop-place.invariant
    (λ d. subst Is (get_or_default list i first d within) (subst (λ (l : List ℕ). contains l (get_or list i first).1 ≡ true) c.deref.ensures.value (sym c.is_among.ensures ∙ c.if-not-is_among.false)))

pub returns : goal.returns
returns c = λ on.
    subst (λ (ts : List Trigger). All (λ (t : Trigger). contains c.args.moves.now.tracked.items t.1 ≡ true) ts) c.triggers-triggers.ensures
    (λ k d within. c.loop-place.invariant k d (omega (arith, within)))
