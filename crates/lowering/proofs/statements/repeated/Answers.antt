use Rattle.std.proofs.Common.{[], ◌∷◌}
use Rattle.std.specs.Prelude.{string_bytes}
use Rattle.model.specs.SourceTrees.{source_expression_of, source_statement_of}
use Rattle.syntax_tree.specs.Expressions.{plain_expression_of}
use Rattle.design_scopes.specs.Places.{means}
use Rattle.statement_parts.specs.Places.{surroundings}
use Rattle.lowering.proofs.Boxed.{repeat_taken_out}
use Rattle.lowering.proofs.Parts.{repeat_made}
use Rattle.lowering.proofs.statements.repeated.Goals as goal

pub returns : goal.returns
returns c =
    let shape = c.in_ok-shape.shape in
    let name = string_bytes c.in_ok-name.name in
    let tree = source_expression_of c.in_ok-tree.tree in
    let body = source_statement_of c.args.body.value in (
      (name, shape.width) ∷ [],
      c.in_ok-name.ensures.made,
      repeat_made (surroundings c.args.around.design.now) (means c.place-place.result) c.args.around.scope (plain_expression_of c.args.count.now) shape name (source_expression_of c.in_ok-counted.counted) tree body (source_statement_of c.in_ok-made.made) c.place-place.ensures
          c.in_ok-shape.ensures c.in_ok-counted.ensures c.in_ok-tree.ensures (repeat_taken_out _ _ _ _ _ _ _ _ c.in_ok-made.ensures c.as_str.ensures.value c.into_inner-tree.ensures c.in_ok-kept.ensures.ok c.into_inner-body.ensures),
    )
