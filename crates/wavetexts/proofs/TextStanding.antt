-- How an observed text stands, line by line.
use Rattle.std.proofs.Common.{◌≡◌, ◌⊎◌, ◌∙◌, ap, inl, inr, refl, sym, subst, ℕ, zero, suc, ◌-◌, ◌<◌, List, [], ◌∷◌, take, arith}
use Rattle.wavetexts.specs.AtTimes.{left_after}
use Rattle.wavetexts.specs.Partings.{TextStandsBehind, on, there, time_after}

taken_none : (n : ℕ) → ◌≡◌ {A = List (List ℕ)} (take n []) []
taken_none zero = refl
taken_none (suc n) = refl

-- where no line is left
pub stands_last : (registers left : ℕ) (time : List ℕ) (n : ℕ) (lines : List (List ℕ)) → lines ≡ [] → TextStandsBehind registers left time left time (take n lines)
stands_last registers left time n lines none = subst (TextStandsBehind registers left time left time) (sym (ap (take n) none ∙ taken_none n)) there

-- where no line more is asked for
pub stands_done : (registers left : ℕ) (time : List ℕ) (n : ℕ) (lines : List (List ℕ)) → n ≡ 0 → TextStandsBehind registers left time left time (take n lines)
stands_done registers left time n lines none = subst (λ (k : ℕ). TextStandsBehind registers left time left time (take k lines)) (sym none) there

-- behind one line more
pub stands_on : (registers left : ℕ) (time : List ℕ) (before : ℕ) (at : List ℕ) (n : ℕ) (line : List ℕ) (lines more : List (List ℕ)) → 1 < n → lines ≡ line ∷ more
    → TextStandsBehind registers left time (left_after registers line before) (time_after before line at) (take (n - 1 - 1) more) → TextStandsBehind registers left time before at (take (n - 1) lines)
stands_on registers left time before at n line lines more some split stands =
    let count : n - 1 ≡ suc (n - 1 - 1) = omega arith in
    subst (λ (k : ℕ). TextStandsBehind registers left time before at (take k lines)) (sym count)
    (subst (λ (ls : List (List ℕ)). TextStandsBehind registers left time before at (take (suc (n - 1 - 1)) ls)) (sym split) (on before at line (take (n - 1 - 1) more) stands))
