-- A design whose calls have more names, and stays as it is else.
use Rattle.std.proofs.Common.{◌≡◌, ℕ, ◌++◌, Bool, Option, None, List, codes, decimal, ap, sym, subst, ◌∙◌}
use Rattle.ranges.specs.declared.range.VectorRange.{VectorRange}
use Rattle.scopes.specs.declared.scope.Entity.{Entity}
use Rattle.scopes.specs.declared.scope.NameScope.{NameScope}
use Rattle.scopes.specs.declared.scope.Reach.TheVariants as reach
use Rattle.scopes.specs.Names.{found}
use Rattle.scopes.specs.Scopes.{NameText}
use Rattle.scopes.specs.Trees.{Declares, ScopesGrow}
use Rattle.design_scopes.specs.declared.scoped.ScopedDesign.{ScopedDesign}
use Rattle.design_scopes.specs.Designs.{DeclaresVariable}
use Rattle.statement_parts.specs.Statements.{SourceText}
use Rattle.call_scopes.specs.declared.copied.CallScopes.{CallScopes}
use Rattle.call_scopes.specs.Fresh.{IsCallName}

-- twice more names are more names
pub names_twice : (a b c : CallScopes) → b ≡ record a { names = b.names } → c ≡ record b { names = c.names } → c ≡ record a { names = c.names }
names_twice a b c p q = q ∙ ap (λ (s : CallScopes). record s { names = c.names }) p

-- the design is the same
design_stays : (a b : CallScopes) → b ≡ record a { names = b.names } → b.design ≡ a.design
design_stays a b p = ap (λ (s : CallScopes). s.design) p

pub nowhere_before : (a b : CallScopes) (scope : ℕ) (name : NameText) → b ≡ record a { names = b.names } → found b.design.tree.scopes.items reach.Design scope name ≡ None → found a.design.tree.scopes.items reach.Design scope name ≡ None
nowhere_before a b scope name p h = subst (λ (d : ScopedDesign). found d.tree.scopes.items reach.Design scope name ≡ None) (design_stays a b p) h

-- a name of a call
pub named_by : (name : SourceText) (number : ℕ) → name ≡ codes "call " ++ decimal number → IsCallName name
named_by name number is = (number, is)

-- what is declared behind more names is declared
pub declares_after : (a b : CallScopes) (new : List NameScope) (at : ℕ) (name : NameText) (what : Entity) → b ≡ record a { names = b.names } → Declares b.design.tree.scopes.items new at name what → Declares a.design.tree.scopes.items new at name what
declares_after a b new at name what p h = subst (λ (d : ScopedDesign). Declares d.tree.scopes.items new at name what) (design_stays a b p) h

pub grows_after : (a b : CallScopes) (new : List NameScope) → b ≡ record a { names = b.names } → ScopesGrow b.design.tree.scopes.items new → ScopesGrow a.design.tree.scopes.items new
grows_after a b new p h = subst (λ (d : ScopedDesign). ScopesGrow d.tree.scopes.items new) (design_stays a b p) h

-- and only the tree of scopes changes, or nothing of the design
pub tree_after : (a b : CallScopes) (new : ScopedDesign) → b ≡ record a { names = b.names } → new ≡ record b.design { tree = new.tree } → new ≡ record a.design { tree = new.tree }
tree_after a b new p q = q ∙ ap (λ (d : ScopedDesign). record d { tree = new.tree }) (design_stays a b p)

pub tree_stays : (a b : CallScopes) → b ≡ record a { names = b.names } → b.design ≡ record a.design { tree = b.design.tree }
tree_stays a b p =
    let e : b.design ≡ a.design = design_stays a b p in
    e ∙ ap (λ (d : ScopedDesign). record a.design { tree = d.tree }) (sym e)

pub variable_after : (a b : CallScopes) (new : ScopedDesign) (at : ℕ) (name : NameText) (as_entity : ℕ → Entity) (signed : Bool) (range : Option VectorRange) → b ≡ record a { names = b.names }
    → DeclaresVariable b.design new at name as_entity signed range → DeclaresVariable a.design new at name as_entity signed range
variable_after a b new at name as_entity signed range p h = subst (λ (d : ScopedDesign). DeclaresVariable d new at name as_entity signed range) (design_stays a b p) h
