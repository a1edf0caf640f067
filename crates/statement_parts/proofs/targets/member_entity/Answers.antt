-- What the scope declares under the name.
use Rattle.syntax_tree.specs.Expressions.{plain_expression_of}
use Rattle.design_scopes.specs.Places.{means}
use Rattle.statement_parts.proofs.Meant.{member_found}
use Rattle.statement_parts.proofs.targets.member_entity.Goals as goal

pub returns : goal.returns
returns c =
    member_found c.args.design.now c.args.scope (means c.place-here.result) (plain_expression_of c.args.base.now) c.in_ok-inner.inner c.args.name.now c.declared.result c.place-here.ensures c.in_ok-inner.ensures c.declared.ensures
