use Rattle.model.specs.SourceTrees.{source_expression_of}
use Rattle.syntax_tree.specs.Expressions.{plain_expression_of}
use Rattle.design_scopes.specs.Places.{means, names_in_scope}
use Rattle.lowering.proofs.Parts.{self_lowered}
use Rattle.lowering.proofs.statements.alone.Goals as goal

pub returns : goal.returns
returns c =
    let design = c.args.around.design.now in
    self_lowered (means c.place-place.result) (names_in_scope design.tree.scopes.items design.objects.items c.args.around.scope) (plain_expression_of c.args.e.now) (source_expression_of c.in_ok-made.made) c.place-place.ensures c.in_ok-made.ensures
