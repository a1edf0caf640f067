-- Lists that are no longer than others.
use Rattle.std.proofs.Common.{◌≡◌, ◌∙◌, sym, subst, refl, ℕ, suc, ◌+◌, ◌-◌, ◌<◌, ◌≤◌, ltb, Bool, true, false, List, [], ◌∷◌, length, get_or, arith}
use Rattle.std.specs.List.{All, AllPairs, Any, remove}
use Rattle.std.proofs.lemmas.List.{get_or_default}
use Rattle.std.proofs.lemmas.List.Edits.{length-remove, get_or-remove_below, get_or-remove_above}
use Rattle.std.proofs.lemmas.Bool.{ltb-true, ltb-false}

-- what some element of a list has, one of those that are left has too, where the one that was taken out hasn't
pub still_some : {Y : Type 0} (P : Y → Type 0) (ys : List Y) (i : ℕ) (y : Y) → i < length ys → get_or ys i y ≡ y → (P y → ⊥) → Any P ys → Any P (remove ys i)
still_some {Y} P ys i y lt at none (j, z, lt', at', holds) = by_place (ltb j i) (ltb i j) refl refl
  where
    by_place : (b c : Bool) → ltb j i ≡ b → ltb i j ≡ c → Any P (remove ys i)
    by_place true c is other =
        let before = ltb-true j i is in
        (j, z, omega (arith, length-remove ys i lt), get_or-remove_below ys i z j before lt ∙ at', holds)
    by_place false true is other =
        let behind = ltb-true i j other in
        (j - 1, z, omega (arith, length-remove ys i lt), get_or-remove_above ys i z (j - 1) (omega (arith, behind)) lt ∙ (subst (λ (n : ℕ). get_or ys n z ≡ z) (omega (arith, behind)) at'), holds)
    by_place false false is other =
        let same : i ≡ j = omega (arith, ltb-false j i is, ltb-false i j other) in
        let one : z ≡ y = sym at' ∙ (subst (λ (n : ℕ). get_or ys n z ≡ y) same (get_or_default ys i z y lt ∙ at)) in
        absurd (none (subst P one holds))

-- A list isn't longer than another in which each of its elements has one that belongs to it, where no two have the same.
pub no_longer : {X Y : Type 0} (R : X → Y → Type 0) (xs : List X) (ys : List Y) → AllPairs (λ a b. (y : Y) → R a y → R b y → ⊥) xs → All (λ x. Any (R x) ys) xs → length xs ≤ length ys
no_longer R [] ys apart all = omega arith
no_longer {X} {Y} R (x ∷ xs) ys apart all =
    let (i, y, lt, at, holds) = all 0 x (omega arith) in
    let rest : length xs ≤ length (remove ys i) =
    no_longer R xs (remove ys i) (λ k m d less within. apart (suc k) (suc m) d (omega (arith, less)) (omega (arith, within)))
    (λ k d within. still_some (R (get_or xs k d)) ys i y lt at (λ other. apart 0 (suc k) d (omega arith) (omega (arith, within)) y holds other) (all (suc k) d (omega (arith, within)))) in
    omega (arith, rest, length-remove ys i lt)
