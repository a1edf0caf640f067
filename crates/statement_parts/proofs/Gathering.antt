-- Lists behind which pieces are put, one after another.
use Rattle.std.proofs.Common.{◌≡◌, ℕ, ◌+◌, ◌<◌, List, [], ◌∷◌, ◌++◌, length, get_or, drop, append_assoc, refl, ap, sym, ◌∙◌, arith}
use Rattle.std.proofs.lemmas.List.{append-nil, at_drop_more}
use Rattle.std.specs.Vec.Iter.{into_iter_items, into_iter_len}
use Rattle.std.specs.declared.vec.IntoIter.{IntoIter}

-- two pieces
pub joined : {X : Type 0} (new old a mid b : List X) → new ≡ mid ++ b → mid ≡ old ++ a → new ≡ old ++ (a ++ b)
joined new old a mid b h k = h ∙ ap (λ w. w ++ b) k ∙ append_assoc old a b

-- one piece less is left
less_left : {X : Type 0} (old new a rest left all : List X) → left ≡ a ++ rest → new ≡ old ++ a → old ++ left ≡ all → new ++ rest ≡ all
less_left old new a rest left all is more before = ap (λ w. w ++ rest) more ∙ append_assoc old a rest ∙ ap (λ w. old ++ w) (sym is) ∙ before

-- the pieces of the elements that are left of a list, by its next one
pub next_added : {S X : Type 0} (f : List S → List X) (g : S → List X) (xs : List S) (i : ℕ) (x : S) (old new all : List X) → ((y : S) (ys : List S) → f (y ∷ ys) ≡ g y ++ f ys)
    → i < length xs → x ≡ get_or xs i x → new ≡ old ++ g x → old ++ f (drop i xs) ≡ all → new ++ f (drop (i + 1) xs) ≡ all
next_added f g xs i x old new all cons less is more before =
    less_left old new (g x) (f (drop (i + 1) xs)) (f (drop i xs)) all
    (at_drop_more f xs i x less ∙ ap (λ y. f (y ∷ drop (i + 1) xs)) (sym is) ∙ cons x (drop (i + 1) xs)) more before

-- so where each element has two pieces
pub next_two_added : {S X : Type 0} (f : List S → List X) (g h : S → List X) (xs : List S) (i : ℕ) (x : S) (old mid new all : List X) → ((y : S) (ys : List S) → f (y ∷ ys) ≡ g y ++ (h y ++ f ys))
    → i < length xs → x ≡ get_or xs i x → mid ≡ old ++ g x → new ≡ mid ++ h x → old ++ f (drop i xs) ≡ all → new ++ f (drop (i + 1) xs) ≡ all
next_two_added f g h xs i x old mid new all cons less is first second before =
    next_added f (λ y. g y ++ h y) xs i x old new all (λ y ys. cons y ys ∙ sym (append_assoc (g y) (h y) (f ys))) less is (joined new old (g x) mid (h x) second first) before

-- the pieces of the elements that an iterator has left, by its next one
pub taken_added : {S X : Type 0} (f : List S → List X) (g : S → List X) (x : S) (before after : List S) (old new all : List X) → ((y : S) (ys : List S) → f (y ∷ ys) ≡ g y ++ f ys)
    → before ≡ x ∷ after → new ≡ old ++ g x → old ++ f before ≡ all → new ++ f after ≡ all
taken_added f g x before after old new all cons is more left = less_left old new (g x) (f after) (f before) all (ap f is ∙ cons x after) more left

-- nothing is left
pub all_added : {X : Type 0} (found rest all : List X) → rest ≡ [] → found ++ rest ≡ all → found ≡ all
all_added found rest all none q = sym (append-nil found) ∙ ap (λ w. found ++ w) (sym none) ∙ q

-- an iterator of no length has nothing left
pub no_more : {X Z : Type 0} (it : IntoIter X Z) → into_iter_len it ≡ 0 → into_iter_items it ≡ []
no_more it e = nothing (into_iter_items it) (omega (arith, e, it.rest.ok.0))
  where
    nothing : {Y : Type 0} (xs : List Y) → length xs ≡ 0 → xs ≡ []
    nothing [] h = refl
    nothing (x ∷ xs) h = absurd (omega (arith, h))
