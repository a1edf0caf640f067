-- Lists that a loop appends to.
use Rattle.std.proofs.Common.{◌≡◌, ℕ, zero, suc, ◌+◌, ◌<◌, List, [], ◌∷◌, ◌++◌, map, length, take, get_or, sym, ap, ◌∙◌, arith, append_assoc, Some}
use Rattle.std.specs.Prelude.{slice_get}
use Rattle.std.proofs.lemmas.List.{take_more, map_push}

-- one element more is appended, where what the loop appends grows by it
pub grown : {A : Type 0} (start now new more next : List A) (x : A) → now ≡ start ++ more → new ≡ now ++ x ∷ [] → next ≡ more ++ x ∷ [] → new ≡ start ++ next
grown start now new more next x is pushed one =
    pushed ∙ ap (λ l. l ++ x ∷ []) is ∙ append_assoc start more (x ∷ []) ∙ ap (λ l. start ++ l) (sym one)

-- some elements more
pub grown_by : {A : Type 0} (start now new more next xs : List A) → now ≡ start ++ more → new ≡ now ++ xs → next ≡ more ++ xs → new ≡ start ++ next
grown_by start now new more next xs is pushed one =
    pushed ∙ ap (λ l. l ++ xs) is ∙ append_assoc start more xs ∙ ap (λ l. start ++ l) (sym one)

-- what is made of the first elements of a list grows by what is made of the next
pub mapped_more : {A B : Type 0} (f : A → B) (xs : List A) (i : ℕ) (x : A) → i < length xs → x ≡ get_or xs i x → map f (take (i + 1) xs) ≡ map f (take i xs) ++ f x ∷ []
mapped_more f xs i x lt is =
    ap (map f) (take_more xs i x lt ∙ ap (λ y. take i xs ++ y ∷ []) (sym is)) ∙ map_push f (take i xs) x

take_got : (rs : List ℕ) (i r : ℕ) → slice_get rs i ≡ Some r → take (suc i) rs ≡ take i rs ++ r ∷ []
take_got [] i r got = cc
take_got (x ∷ rs) zero r got = let same : x ≡ r = cc in ap (λ y. y ∷ []) same
take_got (x ∷ rs) (suc i) r got = ap (λ ys. x ∷ ys) (take_got rs i r got)

-- the first elements, and the one that stands behind them
pub got_more : (rs : List ℕ) (i r : ℕ) → slice_get rs i ≡ Some r → take (i + 1) rs ≡ take i rs ++ r ∷ []
got_more rs i r got =
    let next : i + 1 ≡ suc i = omega arith in
    ap (λ n. take n rs) next ∙ take_got rs i r got
