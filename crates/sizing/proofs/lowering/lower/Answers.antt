use Rattle.std.proofs.Common.{◌∙◌, ap, unwrap_or}
use Rattle.model.specs.SourceTrees.{source_expression_of}
use Rattle.syntax_tree.specs.Expressions.{plain_expression_of}
use Rattle.sizing.specs.Meanings.{meaning}
use Rattle.sizing.proofs.Lowered.{lowered_within}
use Rattle.sizing.proofs.lowering.lower.Goals as goal

pub returns : goal.returns
returns g c =
    let n = g.E.Environment.means c.args.environment.now in
    let m = meaning n (plain_expression_of c.args.e.now) in
    let found = c.in_ok-found.found in
    lowered_within n m c.args.around found.shape c.unwrap_or-around.result (source_expression_of found.tree) (source_expression_of c.in_ok-lower.field-0) c.in_ok-found.ensures
    (c.unwrap_or-around.ensures ∙ ap (unwrap_or c.args.around) c.shape.ensures) (c.in_ok-lower.ensures n m c.in_ok-found.ensures)
