-- What names mean, by what is found.
use Rattle.std.proofs.Common.{◌≡◌, ℕ, Bool, true, false, List, Option, Some, None, ℤ, if◌then◌else◌, refl, sym, ap, subst, ◌∙◌}
use Rattle.std.specs.Prelude.{option_and_then}
use Rattle.model.specs.Syntax as core
use Rattle.model.specs.Syntax.{Text}
use Rattle.shaped_trees.specs.declared.shape.Shape.{Shape}
use Rattle.ranges.specs.Ranges.{is_near, near}
use Rattle.sizing.specs.declared.environment.Object.{Object}
use Rattle.sizing.specs.Names.{Names, IsNamedObject, by_name, by_call}
use Rattle.sizing.specs.Meanings.{Meaning, named, member, constant_integer, scope_of_index}
use Rattle.sizing.specs.Typing.{IsTyped}

pub object_named : (n : Names) (o : Object) (within : Option ℕ) (name : List ℕ) → n.object within name ≡ Some o → IsNamedObject n o
object_named n o within name h = by_name within name h

pub object_called : (n : Names) (o : Object) (token : ℕ) → n.call token ≡ Some o → IsNamedObject n o
object_called n o token h = by_call token h

pub object_found : (s : Option ℤ → Option ℕ) (x : Option Object) (o : Object) → x ≡ Some o → (named s x).object ≡ Some o
object_found s x o h = ap (λ y. (named s y).object) h

the_object : (s : Option ℤ → Option ℕ) (x : Option Object) (o : Object) → (named s x).object ≡ Some o → x ≡ Some o
the_object s None o h = h
the_object s (Some p) o h = h

pub named_typed : (n : Names) (s : Option ℤ → Option ℕ) (x : Option Object) (o : Object) (shape : Shape) (tree : core.Expression Text)
    → (named s x).object ≡ Some o → IsTyped n (named s (Some o)) shape tree → IsTyped n (named s x) shape tree
named_typed n s x o shape tree h t = subst (λ (y : Option Object). IsTyped n (named s y) shape tree) (sym (the_object s x o h)) t

pub scope_found : (s : Option ℤ → Option ℕ) (x : Option Object) (index : Option ℤ) (k : Option ℕ) → s index ≡ k → (named s x).scope index ≡ k
scope_found s None index k h = h
scope_found s (Some o) index k h = h

-- a member, by the scope that stands before it
pub member_object : (n : Names) (base : Meaning) (name : List ℕ) (scope : ℕ) (o : Object) → base.scope None ≡ Some scope → n.object (Some scope) name ≡ Some o
    → (member n base name).object ≡ Some o
member_object n base name scope o h g =
    object_found (λ index. option_and_then (λ s. n.scope (Some s) name index) (base.scope None)) (option_and_then (λ s. n.object (Some s) name) (base.scope None)) o
    (ap (option_and_then (λ s. n.object (Some s) name)) h ∙ g)

pub member_scope : (n : Names) (base : Meaning) (name : List ℕ) (scope : ℕ) (index : Option ℤ) (k : ℕ) → base.scope None ≡ Some scope → n.scope (Some scope) name index ≡ Some k
    → (member n base name).scope index ≡ Some k
member_scope n base name scope index k h g =
    scope_found (λ i. option_and_then (λ s. n.scope (Some s) name i) (base.scope None)) (option_and_then (λ s. n.object (Some s) name) (base.scope None)) index (Some k)
    (ap (option_and_then (λ s. n.scope (Some s) name index)) h ∙ g)

pub index_scope : (base i : Meaning) (z : ℤ) (k : ℕ) → Some z ≡ constant_integer i → base.scope (Some z) ≡ Some k → scope_of_index base i None ≡ Some k
index_scope base i z k h g = ap (option_and_then (λ j. base.scope (Some j))) (sym h) ∙ g

-- a number that a range may have within it is one once more
by_near : (b : Bool) (z : ℤ) → is_near z ≡ b → (if b then Some z else None) ≡ near (if b then Some z else None)
by_near true z h = ap (λ b. if b then Some z else None) (sym h)
by_near false z h = refl

near_again : (x : Option ℤ) → near x ≡ near (near x)
near_again None = refl
near_again (Some z) = by_near (is_near z) z refl

pub near_met : (x y : Option ℤ) → y ≡ near x → y ≡ near y
near_met x y h = h ∙ near_again x ∙ ap near (sym h)
