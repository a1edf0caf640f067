-- A name that goes into a set of names, or is there.
use Rattle.std.proofs.Common.{◌≡◌, ℕ, Bool, true, false, List, [], ◌∷◌, ◌++◌, Option, Some, Result, Ok, Err, refl, sym, ap, subst, ◌∙◌}
use Rattle.std.specs.Prelude.{◌||◌, not, if◌then◌else◌, MatchBool, IfOk}
use Rattle.std.specs.Borrow.{Bor}
use Rattle.std.specs.List.{list_any, Contains}
use Rattle.std.specs.Str.{bytes_eq}
use Rattle.std.proofs.lemmas.List.{map-append}
use Rattle.std.proofs.lemmas.List.Folds.{list_any-from_Any}
use Rattle.std.proofs.lemmas.Map.Views.{Contains-from_any}
use Rattle.std.proofs.lemmas.Slice.Eq.{bytes_eq-Decides}
use Rattle.design_scopes.specs.Flat.{held_texts, AddsName, AddsNameOf, HasName, HasNameOf}

-- a search among names as the program holds them is one among their texts
texts_any : (name : List ℕ) (keys : List (Bor (List ℕ))) → list_any (λ k. bytes_eq name k.now) keys ≡ list_any (bytes_eq name) (held_texts keys)
texts_any name [] = refl
texts_any name (k ∷ ks) = ap (λ b. bytes_eq name k.now || b) (texts_any name ks)

found_name : (name : List ℕ) (texts : List (List ℕ)) → list_any (bytes_eq name) texts ≡ true → Contains texts name
found_name name texts h = Contains-from_any {eq = bytes_eq} (λ x y e. (bytes_eq-Decides x y).0 e) name texts h

name_found : (name : List ℕ) (texts : List (List ℕ)) → Contains texts name → list_any (bytes_eq name) texts ≡ true
name_found name texts h = list_any-from_Any (bytes_eq name) texts (h.0, name, h.1, h.2, (bytes_eq-Decides name name).1 refl)

pub added_name : (old new : List (Bor (List ℕ))) (name : Bor (List ℕ)) (r : Bool) → r ≡ not (list_any (λ k. bytes_eq name.now k.now) old)
    → new ≡ (if list_any (λ k. bytes_eq name.now k.now) old then old else old ++ name ∷ []) → MatchBool r (AddsName old new name.now) (HasName old name.now)
added_name old new name r is keys = by (list_any (λ k. bytes_eq name.now k.now) old) refl r is keys
  where
    by : (b : Bool) → list_any (λ k. bytes_eq name.now k.now) old ≡ b → (s : Bool) → s ≡ not b → new ≡ (if b then old else old ++ name ∷ []) → MatchBool s (AddsName old new name.now) (HasName old name.now)
    by true q true e k = absurd (cc)
    by true q false e k = found_name name.now (held_texts old) (sym (texts_any name.now old) ∙ q)
    by false q true e k =
        (ap held_texts k ∙ map-append (λ (x : Bor (List ℕ)). x.now) old (name ∷ []), λ has. absurd (let t = sym q ∙ texts_any name.now old ∙ name_found name.now (held_texts old) has in cc))
    by false q false e k = absurd (cc)

-- an object's name that is added as another was not there
pub object_added : {E : Type 0} (r : Result Bool E) (old new : List (Bor (List ℕ))) (name : List ℕ) (found : Option (List ℕ)) → Some name ≡ found
    → IfOk r (λ b. MatchBool b (AddsName old new name) (HasName old name)) → IfOk r (λ b. b ≡ true → AddsNameOf old new found)
object_added (Ok true) old new name found is h = λ e. subst (AddsNameOf old new) is h
object_added (Ok false) old new name found is h = λ e. absurd (cc)
object_added (Err e) old new name found is h = tt

-- an object's name that isn't added as another was there
pub object_there : {E : Type 0} (r : Result Bool E) (old new : List (Bor (List ℕ))) (name : List ℕ) (found : Option (List ℕ)) → Some name ≡ found
    → IfOk r (λ b. MatchBool b (AddsName old new name) (HasName old name)) → IfOk r (λ b. b ≡ false → HasNameOf old found)
object_there (Ok true) old new name found is h = λ e. absurd (cc)
object_there (Ok false) old new name found is h = λ e. subst (HasNameOf old) is h
object_there (Err e) old new name found is h = tt
