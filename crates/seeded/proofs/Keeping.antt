-- Lists of runs that one was taken out of, or put behind.
use Rattle.std.proofs.Common.{◌≡◌, ◌⊎◌, inl, inr, ℕ, ◌+◌, ◌-◌, ◌<◌, ◌≤◌, List, [], ◌∷◌, ◌++◌, length, get_or, refl, sym, ◌∙◌, ap, subst, arith}
use Rattle.std.specs.List.{All, Contains, remove}
use Rattle.std.proofs.lemmas.Bool.{cases_lt, cases_eq}
use Rattle.std.proofs.lemmas.List.Edits.{length-remove, get_or-remove_below, get_or-remove_above}
use Rattle.std.proofs.lemmas.List.Elements.{All-push, All-weaker, All-contains, Contains-push, Contains-append_left, at_read}
use Rattle.runs.specs.declared.run.RunRecord.{RunRecord}
use Rattle.runs.specs.Compared.{IsWhole}
use Rattle.seeded.specs.Samples.{AreStillIn, IsRepresented}

removed_cases : (P : RunRecord → Type 0) (xs : List RunRecord) (n : ℕ) → n < length xs → All P xs → (k : ℕ) (d : RunRecord) → k < length (remove xs n)
    → (k < n) ⊎ (n ≤ k) → P (get_or (remove xs n) k d)
removed_cases P xs n lt all k d below (inl before) =
    subst P (sym (get_or-remove_below xs n d k before lt)) (all k d (omega (arith, before, lt)))
removed_cases P xs n lt all k d below (inr behind) =
    subst P (sym (get_or-remove_above xs n d k behind lt)) (all (k + 1) d (omega (arith, below, length-remove xs n lt)))

-- what all have that were there, those have that are left
pub all_remove : (P : RunRecord → Type 0) (xs : List RunRecord) (n : ℕ) → n < length xs → All P xs → All P (remove xs n)
all_remove P xs n lt all = λ k d below. removed_cases P xs n lt all k d below (cases_lt k n)

still_behind : (xs : List RunRecord) (n : ℕ) → n < length xs → ((d : RunRecord) → IsWhole (get_or xs n d) → ⊥) → (run : RunRecord) → IsWhole run
    → (k : ℕ) → k < length xs → get_or xs k run ≡ run → n ≤ k → (k ≡ n) ⊎ (k ≡ n → ⊥) → Contains (remove xs n) run
still_behind xs n lt cut run whole k below is behind (inl here) =
    absurd (cut run (subst IsWhole (sym (ap (λ (i : ℕ). get_or xs i run) (sym here) ∙ is)) whole))
still_behind xs n lt cut run whole k below is behind (inr other) =
    let more : (k - 1) + 1 ≡ k = omega (arith, behind, other) in (
      (k - 1),
      omega (arith, below, length-remove xs n lt, behind, other),
      get_or-remove_above xs n run (k - 1) (omega (arith, behind, other)) lt ∙ (ap (λ (i : ℕ). get_or xs i run) more ∙ is),
    )

still_cases : (xs : List RunRecord) (n : ℕ) → n < length xs → ((d : RunRecord) → IsWhole (get_or xs n d) → ⊥) → (run : RunRecord) → IsWhole run
    → (k : ℕ) → k < length xs → get_or xs k run ≡ run → (k < n) ⊎ (n ≤ k) → Contains (remove xs n) run
still_cases xs n lt cut run whole k below is (inl before) =
    (k, omega (arith, before, length-remove xs n lt, lt), get_or-remove_below xs n run k before lt ∙ is)
still_cases xs n lt cut run whole k below is (inr behind) = still_behind xs n lt cut run whole k below is behind (cases_eq k n)

-- where a run is taken out that was cut off, those that came to their ends are still there
pub still_remove : (xs : List RunRecord) (n : ℕ) → n < length xs → ((d : RunRecord) → IsWhole (get_or xs n d) → ⊥) → AreStillIn xs (remove xs n)
still_remove xs n lt cut = λ run there whole. still_cases xs n lt cut run whole there.0 there.1 there.2 (cases_lt there.0 n)

from_cases : (P : RunRecord → Type 0) (old : List RunRecord) (run : RunRecord) → All P old → P run → (one : RunRecord) → Contains old one ⊎ (one ≡ run) → P one
from_cases P old run all here one (inl there) = All-contains P old one all there
from_cases P old run all here one (inr is) = subst P (sym is) here

-- what a run has that is new, and what all have that were there, all have
pub all_from : (P : RunRecord → Type 0) (old new : List RunRecord) (run : RunRecord) → All P old → P run → All (λ one. Contains old one ⊎ (one ≡ run)) new → All P new
all_from P old new run all here from =
    All-weaker (λ one. Contains old one ⊎ (one ≡ run)) P (λ one cases. from_cases P old run all here one cases) new from

-- those that are left of a list, with one behind
pub all_from_push : (old left : List RunRecord) (run : RunRecord) → All (Contains old) left → All (λ one. Contains old one ⊎ (one ≡ run)) (left ++ run ∷ [])
all_from_push old left run from =
    All-push (λ one. Contains old one ⊎ (one ≡ run)) left run (All-weaker (Contains old) (λ one. Contains old one ⊎ (one ≡ run)) (λ one there. inl there) left from) (inr refl)

-- those that were there are still there with one behind
pub still_push : (old left : List RunRecord) (run : RunRecord) → AreStillIn old left → AreStillIn old (left ++ run ∷ [])
still_push old left run still = λ one there whole. Contains-append_left left (run ∷ []) one (still one there whole)

-- a run that was put behind others is told there
pub told_push : (left : List RunRecord) (run : RunRecord) → IsRepresented (left ++ run ∷ []) run
told_push left run = λ whole. let there : Contains (left ++ run ∷ []) run = Contains-push left run in (there.0, run, there.1, there.2, (refl, refl))

below_cases : (P : RunRecord → Type 0) (xs : List RunRecord) (i : ℕ) (x : RunRecord) → i < length xs → x ≡ get_or xs i x → ((k : ℕ) (d : RunRecord) → k < i → P (get_or xs k d)) → P x
    → (k : ℕ) (d : RunRecord) → k < i + 1 → (k < i) ⊎ (i ≤ k) → P (get_or xs k d)
below_cases P xs i x lt is before here k d below (inl less) = before k d less
below_cases P xs i x lt is before here k d below (inr more) =
    let same : i ≡ k = omega (arith, below, more) in
    subst (λ (n : ℕ). P (get_or xs n d)) same (at_read xs P i x lt is here d)

-- what holds of those before a place, and of the one that was read there
pub below_more_read : (P : RunRecord → Type 0) (xs : List RunRecord) (i : ℕ) (x : RunRecord) → i < length xs → x ≡ get_or xs i x
    → ((k : ℕ) (d : RunRecord) → k < i → P (get_or xs k d)) → P x → (k : ℕ) (d : RunRecord) → k < i + 1 → P (get_or xs k d)
below_more_read P xs i x lt is before here = λ k d below. below_cases P xs i x lt is before here k d below (cases_lt k i)

-- those that are still in a list are so where one is taken out of it that was cut off
pub still_within : (old xs : List RunRecord) (n : ℕ) → n < length xs → ((d : RunRecord) → IsWhole (get_or xs n d) → ⊥) → AreStillIn old xs → AreStillIn old (remove xs n)
still_within old xs n lt cut still = λ run there whole. still_remove xs n lt cut run (still run there whole) whole
