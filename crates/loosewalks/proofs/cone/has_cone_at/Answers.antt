-- What the tests say of a process.
use Rattle.std.proofs.Common.{◌≡◌, ◌⊎◌, ◌∙◌, ℕ, List, true, inl, inr, ap, sym, true≢false}
use Rattle.model.specs.Turns.{contains}
use Rattle.loosewalks.proofs.Cones.{none_outside}
use Rattle.loosewalks.proofs.cone.has_cone_at.Goals as goal

pub returns-then-not-is_any_outside : goal.returns-then-not-is_any_outside
returns-then-not-is_any_outside c = λ on.
    let all = none_outside c.args.cone.now c.outputs_at-outputs.result.now (sym c.is_any_outside.ensures ∙ c.if-not-is_any_outside.true) in
    record {
      begins = λ r logic found pending out. all r (ap (λ (l : List ℕ). contains l r) (c.outputs_at-outputs.ensures logic found) ∙ out);
      goes_on = λ q r logic found input there out. all r (ap (λ (l : List ℕ). contains l r) (c.outputs_at-outputs.ensures logic found) ∙ out);
    }

pub returns : goal.returns
returns c = λ on.
    record {
      begins = λ r logic found pending out. absurd (true≢false (sym pending ∙ sym c.is_among.ensures ∙ c.if-is_among.false));
      goes_on = λ q r logic found input there out.
          absurd (neither_one q there (ap (λ (l : List ℕ). contains l q) (c.inputs_at-inputs.ensures logic found) ∙ input));
    }
  where
    neither_one : (q : ℕ) → (contains c.args.touched.now q ≡ true) ⊎ (contains c.args.cone.now q ≡ true) → contains c.inputs_at-inputs.result.now q ≡ true → ⊥
    neither_one q (inl there) input = true≢false (sym there ∙ c.share.ensures.apart c.if-share.false q input)
    neither_one q (inr there) input = true≢false (sym there ∙ c.share-2.ensures.apart c.if-share-2.false q input)
