-- Lists that stand in others at a place.
use Rattle.std.proofs.Common.{◌≡◌, ℕ, zero, suc, ◌+◌, ◌<◌, List, [], ◌∷◌, ◌++◌, length, drop, get_or, Some, refl, sym, ◌∙◌, ap, arith, zero-add, append_assoc}
use Rattle.std.proofs.Math.Seq.{drop-nil}
use Rattle.std.proofs.lemmas.List.{at_drop_more}
use Rattle.std.specs.Prelude.{slice_index_or, slice_get}

-- these stand one after another in the list, the first of them at this place
abbrev pub Sits : {A : Type 0} → List A → ℕ → List A → Type 0
Sits {A} xs n ys = (others : List A) × (drop n xs ≡ ys ++ others)

first_of_drop : {A : Type 0} → (n : ℕ) (xs ys : List A) (x d : A) → drop n xs ≡ x ∷ ys → slice_index_or xs n d ≡ x
first_of_drop zero xs ys x d e = rw e refl
first_of_drop (suc n) [] ys x d e = cc
first_of_drop (suc n) (y ∷ xs) ys x d e = first_of_drop n xs ys x d e

get_of_drop : {A : Type 0} → (n : ℕ) (xs ys : List A) (x : A) → drop n xs ≡ x ∷ ys → slice_get xs n ≡ Some x
get_of_drop zero xs ys x e = rw e refl
get_of_drop (suc n) [] ys x e = cc
get_of_drop (suc n) (y ∷ xs) ys x e = get_of_drop n xs ys x e

drop_more : {A : Type 0} → (n k : ℕ) (xs : List A) → drop (n + k) xs ≡ drop k (drop n xs)
drop_more zero k xs = rw zero-add refl
drop_more (suc n) k [] = rw (drop-nil (suc n + k), drop-nil k) refl
drop_more (suc n) k (x ∷ xs) =
    let sum : suc n + k ≡ suc (n + k) = omega arith in
    rw sum (drop_more n k xs)

pub drop-length-append : {A : Type 0} → (ys zs : List A) → drop (length ys) (ys ++ zs) ≡ zs
drop-length-append [] zs = refl
drop-length-append (y ∷ ys) zs = drop-length-append ys zs

rest_of_drop : {A : Type 0} → (n : ℕ) (xs ys zs : List A) → drop n xs ≡ ys ++ zs → drop (n + length ys) xs ≡ zs
rest_of_drop n xs ys zs e = rw (drop_more n (length ys) xs, e) (drop-length-append ys zs)

-- the first of them is at the place
pub sits_first : {A : Type 0} → (xs : List A) (n : ℕ) (y : A) (ys : List A) (d : A) → Sits xs n (y ∷ ys) → slice_index_or xs n d ≡ y
sits_first xs n y ys d (others, e) = first_of_drop n xs (ys ++ others) y d e

pub sits_there : {A : Type 0} → (xs : List A) (n : ℕ) (y : A) (ys : List A) → Sits xs n (y ∷ ys) → slice_get xs n ≡ Some y
sits_there xs n y ys (others, e) = get_of_drop n xs (ys ++ others) y e

-- a first part of them stands at the same place
pub sits_left : {A : Type 0} → (xs : List A) (n : ℕ) (ys zs : List A) → Sits xs n (ys ++ zs) → Sits xs n ys
sits_left xs n ys zs (others, e) = (zs ++ others, e ∙ append_assoc ys zs others)

-- and the rest behind it
pub sits_right : {A : Type 0} → (xs : List A) (n m : ℕ) (ys zs : List A) → n + length ys ≡ m → Sits xs n (ys ++ zs) → Sits xs m zs
sits_right xs n m ys zs sum (others, e) = (others, ap (λ k. drop k xs) (sym sum) ∙ rest_of_drop n xs ys (zs ++ others) (e ∙ append_assoc ys zs others))

-- those behind the first stand behind it
pub sits_behind : {A : Type 0} → (xs : List A) (n : ℕ) (y : A) (ys : List A) → Sits xs n (y ∷ ys) → Sits xs (n + 1) ys
sits_behind xs n y ys (others, e) = (others, rest_of_drop n xs (y ∷ []) (ys ++ others) e)

-- a function of what is left of a list, at the next of them
pub left_more : {A B : Type 0} → (f : List A → B) (xs : List A) (i : ℕ) (x : A) → i < length xs → x ≡ get_or xs i x → f (drop i xs) ≡ f (x ∷ drop (i + 1) xs)
left_more f xs i x lt is = at_drop_more f xs i x lt ∙ ap (λ y. f (y ∷ drop (i + 1) xs)) (sym is)
