-- A list by its front.
use Rattle.std.proofs.Common.{◌≡◌, ◌≢◌, ◌-◌, ◌==◌, ◌<◌, ◌≤◌, Bool, true, false, List, [], ◌∷◌, length, get_or, take, drop, Vec, vec_len, refl, sym, ap, arith}
use Rattle.std.specs.declared.alloc.Global.{Global}
use Rattle.std.proofs.lemmas.List.{take_all}
use Rattle.std.proofs.lemmas.Grind.{common_steps}

pub front_of : {X : Type 0} (xs : List X) (d : X) → 1 ≤ length xs → xs ≡ get_or xs 0 d ∷ take (length xs - 1) (drop 1 xs)
front_of [] d h = absurd (omega arith)
front_of (x ∷ xs) d h = ap (λ ys. x ∷ ys) (sym (take_all (length (x ∷ xs) - 1) xs (omega arith)))

pub none_of : {X : Type 0} (xs : List X) → length xs < 1 → xs ≡ []
none_of [] h = refl
none_of (x ∷ xs) h = absurd (omega arith)

-- what an answer of `is_empty` says of the elements

pub none_if_empty : {X : Type 0} (v : Vec X Global) (b : Bool) → b ≡ (vec_len v == 0) → b ≡ true → v.items ≡ []
none_if_empty v b is yes_it_is =
    let none : length v.items ≡ 0 = grind (arith, common_steps) in
    none_of v.items (omega (arith, none))

pub some_if_not_empty : {X : Type 0} (v : Vec X Global) (b : Bool) → b ≡ (vec_len v == 0) → b ≡ false → v.items ≢ []
some_if_not_empty v b is not_it =
    let some : 0 < length v.items = grind (arith, common_steps) in
    λ e. omega (arith, some, ap length e)
