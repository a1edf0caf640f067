-- The same texts.
use Rattle.std.proofs.Common.{◌≡◌, ◌∙◌, Bool, true, false, not, refl, sym}
use Rattle.std.specs.Cmp.Lexicographic.{same_text}
use Rattle.looseparts.proofs.repeats.come_to_the_same.Goals as goal

not_other : (b : Bool) → false ≡ not b → true ≡ b
not_other true h = refl
not_other false h = cc

pub returns-clause-lines : goal.returns-clause-lines
returns-clause-lines c = λ yes.
    let same : c.as_slice.result.now ≡ c.as_slice-2.result.now = same_text c.as_slice.result.now c.as_slice-2.result.now (not_other _ c.if-ne.ensures) in
    sym c.as_slice.ensures.value ∙ (same ∙ c.as_slice-2.ensures.value)

pub returns-clause-key : goal.returns-clause-key
returns-clause-key c = λ yes.
    let same : c.as_slice-3.result.now ≡ c.as_slice-4.result.now = same_text c.as_slice-3.result.now c.as_slice-4.result.now (sym yes ∙ c.eq.ensures) in
    sym c.as_slice-3.ensures.value ∙ (same ∙ c.as_slice-4.ensures.value)
