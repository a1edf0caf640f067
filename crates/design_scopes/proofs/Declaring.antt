-- What a scope declares, by the steps of the program.
use Rattle.std.proofs.Common.{◌≡◌, ℕ, Bool, ◌+◌, ◌<◌, List, [], ◌∷◌, ◌++◌, length, take, get_or, append_assoc, Option, Result, Ok, Err, sym, ap, subst, ◌∙◌, arith}
use Rattle.std.specs.Prelude.{OnOk, string_bytes}
use Rattle.std.specs.declared.alloc.Global.{Global}
use Rattle.std.specs.declared.string.String.{String}
use Rattle.std.proofs.lemmas.List.{take_more, take_all, append-nil, map-append}
use Rattle.ranges.specs.declared.range.VectorRange.{VectorRange}
use Rattle.scopes.specs.declared.fault.ScopeFault.{ScopeFault}
use Rattle.scopes.specs.declared.scope.Entity.{Entity}
use Rattle.scopes.specs.declared.scope.Entity.TheVariants as entity
use Rattle.scopes.specs.declared.tree.ScopeTree.{ScopeTree}
use Rattle.scopes.specs.Scopes.{NameText}
use Rattle.scopes.specs.Trees.{Declares, ScopesGrow}
use Rattle.sizing.specs.declared.environment.Object.{Object}
use Rattle.sizing.specs.declared.environment.ObjectValue.TheVariants as worth
use Rattle.design_scopes.specs.declared.faults.DesignFault.{DesignFault}
use Rattle.design_scopes.specs.declared.scoped.ScopedDesign.{ScopedDesign}
use Rattle.design_scopes.specs.Designs.{DeclaresObject, DeclaresVariable, AddsVariable, full_name_at, names_at_scope, IsToldAs, IsToldWhy, DeclaresEach, declares_none, declares_more, DeclaresVariables, declarator_names}
use Rattle.design_scopes.specs.Values.{IsVariableType}
use Rattle.design_scopes.specs.declared.variables.VariableType.{VariableType}
use Rattle.syntax_tree.specs.declared.declarations.Declarator.{Declarator}
use Rattle.syntax_tree.specs.declared.declarations.ValueType.{ValueType}
use Rattle.syntax_tree.specs.declared.declarations.VariableKind.{VariableKind}

-- the scopes before and behind a declaration, where an object was added first
pub record FollowsAdding (old mid new : ScopedDesign) : Type 0 where
  pub added : mid ≡ record old { objects = mid.objects; tokens = mid.tokens }
  pub declared : new ≡ record mid { tree = new.tree }

pub follows : (old mid new : ScopedDesign) → mid ≡ record old { objects = mid.objects; tokens = mid.tokens } → new ≡ record mid { tree = new.tree } → FollowsAdding old mid new
follows old mid new e f = record { added = e; declared = f }

object_made : (old mid new : ScopedDesign) (scope : ℕ) (name : NameText) (as_entity : ℕ → Entity) (o : Object) (k : ℕ) → FollowsAdding old mid new → k ≡ length old.objects.items → mid.objects.items ≡ old.objects.items ++ o ∷ []
    → Declares mid.tree.scopes.items new.tree.scopes.items scope name (as_entity k) → ScopesGrow mid.tree.scopes.items new.tree.scopes.items → DeclaresObject old new scope name as_entity o
object_made old mid new scope name as_entity o k steps number added declares grows =
    let kept : mid.tree ≡ old.tree = ap (λ (d : ScopedDesign). d.tree) steps.added in
    record {
      objects = ap (λ (d : ScopedDesign). d.objects.items) steps.declared ∙ added;
      declares = subst (λ (n : ℕ). Declares old.tree.scopes.items new.tree.scopes.items scope name (as_entity n)) number (subst (λ (t : ScopeTree). Declares t.scopes.items new.tree.scopes.items scope name (as_entity k)) kept declares);
      grows = subst (λ (t : ScopeTree). ScopesGrow t.scopes.items new.tree.scopes.items) kept grows;
      processes = ap (λ (d : ScopedDesign). d.processes.items) steps.declared ∙ ap (λ (d : ScopedDesign). d.processes.items) steps.added;
    }

pub object_declared : {T E : Type 0} (r : Result T E) (old mid new : ScopedDesign) (scope : ℕ) (name : NameText) (as_entity : ℕ → Entity) (o : Object) (k : ℕ) → FollowsAdding old mid new → k ≡ length old.objects.items
    → mid.objects.items ≡ old.objects.items ++ o ∷ [] → OnOk r (Declares mid.tree.scopes.items new.tree.scopes.items scope name (as_entity k)) → OnOk r (ScopesGrow mid.tree.scopes.items new.tree.scopes.items)
    → OnOk r (DeclaresObject old new scope name as_entity o)
object_declared (Ok x) old mid new scope name as_entity o k steps number added declares grows =
    object_made old mid new scope name as_entity o k steps number added declares grows
object_declared (Err e) old mid new scope name as_entity o k steps number added declares grows = tt

-- the object of a variable
pub variable_added : {T E : Type 0} (r : Result T E) (old new : ScopedDesign) (full : NameText) (text : String Global) (signed : Bool) (range : Option VectorRange) → string_bytes text ≡ full
    → OnOk r (new.objects.items ≡ old.objects.items ++ record { signed = signed; range = range; value = worth.Variable text } ∷ []) → OnOk r (AddsVariable old new full signed range)
variable_added (Ok x) old new full text signed range is added = (text, is, added)
variable_added (Err e) old new full text signed range is added = tt

pub variable_declared : {T E : Type 0} (r : Result T E) (old mid new : ScopedDesign) (scope : ℕ) (name : NameText) (as_entity : ℕ → Entity) (signed : Bool) (range : Option VectorRange) (k : ℕ) → FollowsAdding old mid new
    → k ≡ length old.objects.items → AddsVariable old mid (full_name_at old scope name) signed range → OnOk r (Declares mid.tree.scopes.items new.tree.scopes.items scope name (as_entity k))
    → OnOk r (ScopesGrow mid.tree.scopes.items new.tree.scopes.items) → OnOk r (DeclaresVariable old new scope name as_entity signed range)
variable_declared (Ok x) old mid new scope name as_entity signed range k steps number added declares grows =
    (added.0, added.1, object_made old mid new scope name as_entity _ k steps number added.2 declares grows)
variable_declared (Err e) old mid new scope name as_entity signed range k steps number added declares grows = tt

-- what is told of a scope or a name that isn't added
pub told_why : (Is : ScopeFault → Type 0) (found : ScopeFault) (token : ℕ) (told : DesignFault) → Is found → IsToldAs found token told → IsToldWhy Is token told
told_why Is found token told h t = (found, h, t)

-- With declarations of what is left, in any number, all are declared.
abbrev pub IsUnderWay : ℕ → (ℕ → Entity) → Bool → Option VectorRange → List NameText → ScopedDesign → ScopedDesign → Type 0
IsUnderWay scope as_entity signed range front first here =
    (names : List NameText) (new : ScopedDesign) → DeclaresEach scope as_entity signed range names here new → DeclaresEach scope as_entity signed range (front ++ names) first new

pub each_more : (scope : ℕ) (as_entity : ℕ → Entity) (signed : Bool) (range : Option VectorRange) (declarators : List Declarator) (i : ℕ) (declarator : Declarator) (first here next : ScopedDesign) → i < length declarators → declarator ≡ get_or declarators i declarator
    → IsUnderWay scope as_entity signed range (declarator_names (take i declarators)) first here → DeclaresVariable here next scope declarator.identifier.name.items as_entity signed range
    → IsUnderWay scope as_entity signed range (declarator_names (take (i + 1) declarators)) first next
each_more scope as_entity signed range declarators i declarator first here next within is so declares names new rest =
    let name = declarator.identifier.name.items in
    let front = declarator_names (take i declarators) in
    let longer : declarator_names (take (i + 1) declarators) ≡ front ++ name ∷ [] =
    ap declarator_names (take_more declarators i declarator within) ∙ map-append (λ (d : Declarator). d.identifier.name.items) (take i declarators) (get_or declarators i declarator ∷ [])
    ∙ ap (λ (d : Declarator). front ++ d.identifier.name.items ∷ []) (sym is) in
    subst (λ (ns : List NameText). DeclaresEach scope as_entity signed range (ns ++ names) first new) (sym longer)
    (subst (λ (ns : List NameText). DeclaresEach scope as_entity signed range ns first new) (sym (append_assoc front (name ∷ []) names))
    (so (name ∷ names) new (declares_more here next new name names declares rest)))

pub each_done : (scope : ℕ) (as_entity : ℕ → Entity) (signed : Bool) (range : Option VectorRange) (declarators : List Declarator) (i : ℕ) (first here : ScopedDesign) → length declarators ≡ i
    → IsUnderWay scope as_entity signed range (declarator_names (take i declarators)) first here → DeclaresEach scope as_entity signed range (declarator_names declarators) first here
each_done scope as_entity signed range declarators i first here all so =
    subst (λ (ns : List NameText). DeclaresEach scope as_entity signed range ns first here) (append-nil (declarator_names declarators))
    (subst (λ (ds : List Declarator). DeclaresEach scope as_entity signed range (declarator_names ds ++ []) first here) (take_all i declarators (omega (arith, all))) (so [] here (declares_none here)))

-- the variables of a declaration
pub variables_declared : {T E : Type 0} (r : Result T E) (old new : ScopedDesign) (scope : ℕ) (kind : VariableKind) (v : ValueType) (names : List NameText) (found : VariableType) → IsVariableType (names_at_scope old scope) kind v found
    → OnOk r (DeclaresEach scope entity.Object found.signed found.range names old new) → OnOk r (DeclaresVariables old new scope kind v names)
variables_declared (Ok x) old new scope kind v names found is each = record { found = found; is = is; each = each }
variables_declared (Err e) old new scope kind v names found is each = tt
