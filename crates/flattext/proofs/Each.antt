-- Items of a list that are put one behind another.
use Rattle.std.proofs.Common.{◌≡◌, ◌∙◌, ap, sym, ℕ, ◌+◌, ◌<◌, ◌≤◌, List, [], ◌∷◌, ◌++◌, length, get_or, drop, append_assoc, append-nil}
use Rattle.std.proofs.lemmas.List.{at_drop_more, at_drop_all}

-- one item more is put, and what is left stands behind it
pub each_more : {X : Type 0} (f : List X → List ℕ) (piece new text whole : List ℕ) (xs : List X) (i : ℕ) (x : X) → i < length xs → x ≡ get_or xs i x → f (x ∷ drop (i + 1) xs) ≡ piece ++ f (drop (i + 1) xs)
    → text ++ f (drop i xs) ≡ whole → new ≡ text ++ piece → new ++ f (drop (i + 1) xs) ≡ whole
each_more f piece new text whole xs i x h is step before put =
    ap (λ w. w ++ f (drop (i + 1) xs)) put ∙ append_assoc text piece (f (drop (i + 1) xs)) ∙ ap (λ w. text ++ w) (sym step) ∙ ap (λ y. text ++ f (y ∷ drop (i + 1) xs)) is
    ∙ sym (at_drop_more (λ ys. text ++ f ys) xs i x h) ∙ before

-- so of bytes
pub each_byte_more : (f : List ℕ → List ℕ) (piece new text whole bytes : List ℕ) (i : ℕ) → i < length bytes → f (get_or bytes i 0 ∷ drop (i + 1) bytes) ≡ piece ++ f (drop (i + 1) bytes) → text ++ f (drop i bytes) ≡ whole → new ≡ text ++ piece
    → new ++ f (drop (i + 1) bytes) ≡ whole
each_byte_more f piece new text whole bytes i h step before put =
    ap (λ w. w ++ f (drop (i + 1) bytes)) put ∙ append_assoc text piece (f (drop (i + 1) bytes)) ∙ ap (λ w. text ++ w) (sym step) ∙ sym (at_drop_more (λ ys. text ++ f ys) bytes i 0 h) ∙ before

-- so of two pieces for each item
pub each_two_more : {X : Type 0} (f : List X → List ℕ) (a b new mid text whole : List ℕ) (xs : List X) (i : ℕ) (x : X) → i < length xs → x ≡ get_or xs i x → f (x ∷ drop (i + 1) xs) ≡ a ++ (b ++ f (drop (i + 1) xs))
    → text ++ f (drop i xs) ≡ whole → mid ≡ text ++ a → new ≡ mid ++ b → new ++ f (drop (i + 1) xs) ≡ whole
each_two_more f a b new mid text whole xs i x h is step before first second =
    each_more f (a ++ b) new text whole xs i x h is (step ∙ sym (append_assoc a b (f (drop (i + 1) xs)))) before (second ∙ ap (λ w. w ++ b) first ∙ append_assoc text a b)

-- all are put
pub each_put : {X : Type 0} (f : List X → List ℕ) (text whole : List ℕ) (xs : List X) (i : ℕ) → length xs ≤ i → f [] ≡ [] → text ++ f (drop i xs) ≡ whole → text ≡ whole
each_put f text whole xs i h none so = sym (append-nil text) ∙ ap (λ w. text ++ w) (sym none) ∙ sym (at_drop_all (λ ys. text ++ f ys) xs i h) ∙ so
