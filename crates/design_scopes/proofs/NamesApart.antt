-- Names that are gathered one after another, each apart from those before it.
use Rattle.std.proofs.Common.{◌≡◌, ◌≢◌, ℕ, ◌+◌, ◌<◌, List, [], ◌∷◌, ◌++◌, length, append_assoc, take, drop, get_or, Option, None, Some, refl, sym, ap, subst, ◌∙◌, arith}
use Rattle.std.specs.Borrow.{Bor}
use Rattle.std.specs.Option.{option_to_list}
use Rattle.std.specs.List.{AllPairs, Contains}
use Rattle.std.proofs.Math.ListN.{get_or-append}
use Rattle.std.proofs.Math.Seq.{get_or-append_seam}
use Rattle.std.proofs.lemmas.List.{take_more, take_all, append-nil, take-append-drop, length-append}
use Rattle.std.proofs.lemmas.List.Concat.{flat_map-append}
use Rattle.std.proofs.lemmas.List.Elements.{Contains-get_or}
use Rattle.std.proofs.lemmas.List.Quantifiers.{all_pairs_push}
use Rattle.sizing.specs.declared.environment.Object.{Object}
use Rattle.design_scopes.specs.Flat.{object_name, variable_names, held_texts, AddsName, AddsNameOf, HasName, HasNameOf}

-- The names that are there are those of the first objects, and they are apart.
pub record AreApart (keys : List (Bor (List ℕ))) (objects : List Object) (n : ℕ) : Type 0 where
  pub same : held_texts keys ≡ variable_names (take n objects)
  pub apart : AllPairs (λ a b. a ≢ b) (variable_names (take n objects))

pub none_apart : (objects : List Object) → AreApart [] objects 0
none_apart objects = record { same = refl; apart = λ i j d h k. absurd (omega (arith, k)) }

-- the names of one object more
names_more : (objects : List Object) (n : ℕ) (o : Object) → n < length objects → o ≡ get_or objects n o → variable_names (take (n + 1) objects) ≡ variable_names (take n objects) ++ option_to_list (object_name o)
names_more objects n o h is =
    ap variable_names (take_more objects n o h) ∙ flat_map-append (λ x. option_to_list (object_name x)) (take n objects) (get_or objects n o ∷ [])
    ∙ ap (λ x. variable_names (take n objects) ++ (option_to_list (object_name x) ++ [])) (sym is)
    ∙ ap (λ ys. variable_names (take n objects) ++ ys) (append-nil (option_to_list (object_name o)))

-- a constant has none
constant_more : (keys new : List (Bor (List ℕ))) (objects : List Object) (n : ℕ) (o : Object) → n < length objects → o ≡ get_or objects n o → object_name o ≡ None → held_texts new ≡ held_texts keys
    → AreApart keys objects n → AreApart new objects (n + 1)
constant_more keys new objects n o h is none same a =
    let e = names_more objects n o h is ∙ ap (λ r. variable_names (take n objects) ++ option_to_list r) none ∙ append-nil (variable_names (take n objects)) in
    record { same = same ∙ a.same ∙ sym e; apart = subst (AllPairs (λ a b. a ≢ b)) (sym e) a.apart }

-- a variable's is added, where it isn't there
variable_more : (keys new : List (Bor (List ℕ))) (objects : List Object) (n : ℕ) (o : Object) (name : List ℕ) → n < length objects → o ≡ get_or objects n o → object_name o ≡ Some name → AddsName keys new name
    → AreApart keys objects n → AreApart new objects (n + 1)
variable_more keys new objects n o name h is some adds a =
    let before = variable_names (take n objects) in
    let e : variable_names (take (n + 1) objects) ≡ before ++ name ∷ [] = names_more objects n o h is ∙ ap (λ r. before ++ option_to_list r) some in
    let absent : Contains before name → ⊥ = λ has. adds.1 (subst (λ xs. Contains xs name) (sym a.same) has) in
    let pushed : AllPairs (λ a b. a ≢ b) (before ++ name ∷ []) =
    all_pairs_push (λ a b. a ≢ b) before name a.apart (λ k d l q. absent (subst (λ x. Contains before x) q (Contains-get_or before k d l))) in
    record { same = adds.0 ∙ ap (λ xs. xs ++ name ∷ []) a.same ∙ sym e; apart = subst (AllPairs (λ a b. a ≢ b)) (sym e) pushed }

-- a name that is there already isn't apart from those before it
name_again : (keys : List (Bor (List ℕ))) (objects : List Object) (n : ℕ) (o : Object) (name : List ℕ) → n < length objects → o ≡ get_or objects n o → object_name o ≡ Some name → HasName keys name
    → AreApart keys objects n → AllPairs (λ a b. a ≢ b) (variable_names objects) → ⊥
name_again keys objects n o name h is some has a apart =
    let before = variable_names (take n objects) in
    let behind = variable_names (drop (n + 1) objects) in
    let more : variable_names (take (n + 1) objects) ≡ before ++ name ∷ [] = names_more objects n o h is ∙ ap (λ r. before ++ option_to_list r) some in
    let whole : variable_names objects ≡ before ++ (name ∷ behind) =
    ap variable_names (sym (take-append-drop (n + 1) objects)) ∙ flat_map-append (λ x. option_to_list (object_name x)) (take (n + 1) objects) (drop (n + 1) objects)
    ∙ ap (λ xs. xs ++ behind) more ∙ append_assoc before (name ∷ []) behind in
    let there : Contains before name = subst (λ xs. Contains xs name) a.same has in
    let all : AllPairs (λ a b. a ≢ b) (before ++ (name ∷ behind)) = subst (AllPairs (λ a b. a ≢ b)) whole apart in
    all there.0 (length before) name there.1 (omega (arith, length-append before (name ∷ behind)))
    (get_or-append before (name ∷ behind) name there.0 there.1 ∙ there.2 ∙ sym (get_or-append_seam before name behind name))

pub object_again : (keys : List (Bor (List ℕ))) (objects : List Object) (n : ℕ) (o : Object) (name : Option (List ℕ)) → n < length objects → o ≡ get_or objects n o → object_name o ≡ name → HasNameOf keys name
    → AreApart keys objects n → AllPairs (λ a b. a ≢ b) (variable_names objects) → ⊥
object_again keys objects n o None h is none has a apart = has
object_again keys objects n o (Some name) h is some has a apart = name_again keys objects n o name h is some has a apart

-- an object more
pub object_more : (keys new : List (Bor (List ℕ))) (objects : List Object) (n : ℕ) (o : Object) (name : Option (List ℕ)) → n < length objects → o ≡ get_or objects n o → object_name o ≡ name → AddsNameOf keys new name
    → AreApart keys objects n → AreApart new objects (n + 1)
object_more keys new objects n o None h is none same a = constant_more keys new objects n o h is none same a
object_more keys new objects n o (Some name) h is some adds a = variable_more keys new objects n o name h is some adds a

pub all_apart : (keys : List (Bor (List ℕ))) (objects : List Object) (n : ℕ) → length objects ≡ n → AreApart keys objects n → AllPairs (λ a b. a ≢ b) (variable_names objects)
all_apart keys objects n h a = subst (λ xs. AllPairs (λ a b. a ≢ b) (variable_names xs)) (take_all n objects (omega (arith, h))) a.apart
