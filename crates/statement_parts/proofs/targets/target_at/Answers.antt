-- The object that the name stands for is the target.
use Rattle.syntax_tree.specs.Expressions.{plain_expression_of}
use Rattle.design_scopes.specs.Places.{means}
use Rattle.statement_parts.proofs.Meant.{variable_meant}
use Rattle.statement_parts.proofs.targets.target_at.Goals as goal

pub returns : goal.returns
returns c = variable_meant c.target_in.result (means c.args.place.now) (plain_expression_of c.args.e.now) _ c.in_ok-object.ensures c.target_in.ensures
