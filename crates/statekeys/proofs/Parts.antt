-- Lists of parts, and their codes.
use Rattle.std.proofs.Common.{◌≡◌, ℕ, List, ◌++◌, length, map, sym, ◌∙◌, ap}
use Rattle.std.specs.Prelude.{flat_map}
use Rattle.std.proofs.lemmas.List.{length-map}
use Rattle.std.proofs.lemmas.List.Folds.{flat_map-map}
use Rattle.statekeys.specs.KeyCodes.{nat_code, list_code}

pub list_code-map : {A B : Type 0} (c : B → List ℕ) (f : A → B) (xs : List A) → list_code (λ x. c (f x)) xs ≡ list_code c (map f xs)
list_code-map c f xs = λ k. nat_code (sym (length-map xs f) k) ++ sym (flat_map-map c f xs) k

-- behind other bytes
pub put_map : {A B : Type 0} (c : B → List ℕ) (f : A → B) (xs : List A) (old new : List ℕ) → new ≡ old ++ list_code (λ x. c (f x)) xs
    → new ≡ old ++ list_code c (map f xs)
put_map c f xs old new h = h ∙ ap (λ bs. old ++ bs) (list_code-map c f xs)

-- of a list that is another
pub put_map_of : {A B : Type 0} (c : B → List ℕ) (f : A → B) (zs xs : List A) (old new : List ℕ) → zs ≡ xs
    → new ≡ old ++ list_code (λ x. c (f x)) zs → new ≡ old ++ list_code c (map f xs)
put_map_of {A} c f zs xs old new same h = put_map c f xs old new (h ∙ ap (λ (ys : List A). old ++ list_code (λ x. c (f x)) ys) same)
