use Rattle.std.proofs.Common.{List, subst}
use Rattle.std.specs.Result.{OnOk}
use Rattle.scopes.specs.declared.scope.Entity.TheVariants as entity
use Rattle.syntax_tree.specs.declared.declarations.Declarator.{Declarator}
use Rattle.syntax_tree.specs.declared.declarations.VariableKind.{VariableKind}
use Rattle.design_scopes.specs.Designs.{argument_kind, declarator_names, DeclaresEach, names_at_scope}
use Rattle.design_scopes.specs.Values.{IsVariableType}
use Rattle.design_scopes.proofs.Declaring.{variables_declared}
use Rattle.design_scopes.proofs.scoped.ScopedDesign.declare_arguments.Goals as goal

pub returns : goal.returns
returns c =
    let source = c.args.source.now in
    let found = c.in_ok-variable_type.variable_type in
    variables_declared c.declare_each.result c.args.self.now c.declare_each.new.self c.args.scope (argument_kind source.kind) source.value_type (declarator_names source.declarators.items) found (subst (λ (kind : VariableKind). IsVariableType (names_at_scope c.args.self.now c.args.scope) kind source.value_type found) c.argument_kind.ensures c.in_ok-variable_type.ensures)
    (subst (λ (ds : List Declarator). OnOk c.declare_each.result (DeclaresEach c.args.scope entity.Object found.signed found.range (declarator_names ds) c.args.self.now c.declare_each.new.self)) c.as_slice.ensures.value c.declare_each.ensures)
