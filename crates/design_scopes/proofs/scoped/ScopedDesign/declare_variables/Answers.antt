use Rattle.std.proofs.Common.{List, subst}
use Rattle.std.specs.Result.{OnOk}
use Rattle.scopes.specs.declared.scope.Entity.TheVariants as entity
use Rattle.syntax_tree.specs.declared.declarations.Declarator.{Declarator}
use Rattle.design_scopes.specs.Designs.{declarator_names, DeclaresEach}
use Rattle.design_scopes.proofs.Declaring.{variables_declared}
use Rattle.design_scopes.proofs.scoped.ScopedDesign.declare_variables.Goals as goal

pub returns : goal.returns
returns c =
    let source = c.args.source.now in
    let found = c.in_ok-variable_type.variable_type in
    variables_declared c.declare_each.result c.args.self.now c.declare_each.new.self c.args.scope source.kind source.value_type (declarator_names source.declarators.items) found c.in_ok-variable_type.ensures
    (subst (λ (ds : List Declarator). OnOk c.declare_each.result (DeclaresEach c.args.scope entity.Object found.signed found.range (declarator_names ds) c.args.self.now c.declare_each.new.self)) c.as_slice.ensures.value c.declare_each.ensures)
