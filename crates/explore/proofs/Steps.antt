-- The steps of a lineage.
use Rattle.std.proofs.Common.{◌≡◌, ℕ, suc, ◌+◌, ◌<◌, ◌≤◌, List, [], ◌∷◌, ◌++◌, length, get_or, sym, ap, ◌∙◌, arith, inl, inr, Some, None, Option}
use Rattle.std.specs.Prelude.{slice_get}
use Rattle.explore.specs.Grown.{grown, grown_all}
use Rattle.explore.proofs.Growing.{length-grown_all, get_or-grown_all, get_or-extends, grown_all-push, grown_all-extends, slice_get_push}

-- the runs of these steps
abbrev pub gone : {M : Type 0} → List (ℕ × List M) → List (List M)
gone steps = grown_all ([] ∷ []) steps

-- each step goes on from a run before it
abbrev pub AreSteps : {M : Type 0} → List (ℕ × List M) → Type 0
AreSteps {M} steps = (k : ℕ) (step : ℕ × List M) → slice_get steps k ≡ Some step → step.0 ≤ k

-- there is no step of none
pub none_steps : {M : Type 0} (steps : List (ℕ × List M)) → steps ≡ [] → AreSteps steps
none_steps {M} steps none k step at =
    let clash : ◌≡◌ {A = Option (ℕ × List M)} None (Some step) = ap (λ (l : List (ℕ × List M)). slice_get l k) (sym none) ∙ at in cc

-- there is a run more than there are steps
pub length-gone : {M : Type 0} (steps : List (ℕ × List M)) → length (gone steps) ≡ suc (length steps)
length-gone steps = omega (arith, length-grown_all ([] ∷ []) steps)

-- the first run has no moves
pub gone-none : {M : Type 0} (steps : List (ℕ × List M)) → get_or (gone steps) 0 [] ≡ []
gone-none steps = get_or-extends ([] ∷ []) (gone steps) 0 [] (grown_all-extends ([] ∷ []) steps) (omega arith)

-- a step's run is the one that it goes on from, and its moves
pub gone-step : {M : Type 0} (steps : List (ℕ × List M)) (k : ℕ) (step : ℕ × List M) → AreSteps steps → slice_get steps k ≡ Some step → get_or (gone steps) (k + 1) [] ≡ get_or (gone steps) step.0 [] ++ step.1
gone-step {M} steps k step known e =
    let low : step.0 ≤ k = known k step e in
    ap (λ n. get_or (gone steps) n []) (omega arith) ∙ get_or-grown_all ([] ∷ []) steps k step e (omega (arith, low))

-- a step that is added gives a run more
pub gone-push : {M : Type 0} (steps steps' : List (ℕ × List M)) (step : ℕ × List M) → steps' ≡ steps ++ step ∷ [] → gone steps' ≡ grown (gone steps) step.0 step.1
gone-push steps steps' step e = ap (λ l. gone l) e ∙ grown_all-push ([] ∷ []) steps step

-- the steps are good where one is added
pub AreSteps-push : {M : Type 0} (steps steps' : List (ℕ × List M)) (step : ℕ × List M) → AreSteps steps → steps' ≡ steps ++ step ∷ [] → step.0 < length (gone steps) → AreSteps steps'
AreSteps-push {M} steps steps' step known e from k s at =
    elim (slice_get_push steps step s k (ap (λ (l : List (ℕ × List M)). slice_get l k) (sym e) ∙ at)) [
      | inl h ↦ known k s h.1
      | inr h ↦ omega (arith, h.0, ap (λ (x : ℕ × List M). x.0) h.1, from, length-gone steps)
    ]
