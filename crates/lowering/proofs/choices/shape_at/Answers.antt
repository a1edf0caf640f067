use Rattle.std.proofs.Common.{◌∙◌}
use Rattle.model.specs.SourceTrees.{source_expression_of}
use Rattle.syntax_tree.specs.Expressions.{plain_expression_of}
use Rattle.sizing.specs.Meanings.{meaning}
use Rattle.design_scopes.specs.Places.{means}
use Rattle.lowering.proofs.Shapes.{typed_shape}
use Rattle.lowering.proofs.choices.shape_at.Goals as goal

pub returns : goal.returns
returns c =
    let n = means c.args.place.now in
    c.shape.ensures ∙ typed_shape n (meaning n (plain_expression_of c.args.e.now)) c.in_ok-found.found.shape (source_expression_of c.in_ok-found.found.tree) c.in_ok-found.ensures
