use Rattle.std.proofs.Common.{ℕ, ◌+◌, ap, ◌∙◌, option_map, position}
use Rattle.scopes.specs.declared.scope.NameScope.{NameScope}
use Rattle.scopes.specs.Scopes.{scope_head}
use Rattle.scopes.specs.Names.{has_index}
use Rattle.scopes.proofs.tree.ScopeTree.element.Goals as goal

pub returns-in-Some : goal.returns-in-Some
returns-in-Some c =
    ap (option_map (λ (k : ℕ). c.args.first + k)) (c.in-Some.ensures.value ∙ ap (position (λ (s : NameScope). has_index c.args.index (scope_head s))) c.elements.ensures)

pub returns-in-None : goal.returns-in-None
returns-in-None c =
    ap (option_map (λ (k : ℕ). c.args.first + k)) (c.in-None.ensures.value ∙ ap (position (λ (s : NameScope). has_index c.args.index (scope_head s))) c.elements.ensures)
