use Rattle.std.proofs.Common.{◌+◌, map, drop, ap, subst, ◌∙◌}
use Rattle.design.specs.DesignTrees as tree
use Rattle.model.specs.Elaboration.{resolved}
use Rattle.model.specs.SourceTrees.{source_expression_of, source_expressions}
use Rattle.elaborate.specs.Small.{AreSmall}
use Rattle.elaborate.proofs.Turns.{all_parts, next_of, one_made, pushed}
use Rattle.elaborate.proofs.resolve.+resolved.Goals as goal

pub expressions-returns : goal.expressions-returns
expressions-returns t c =
    all_parts c.args.names.now c.loop-part.made.items c.args.parts.now c.loop-part.part-index c.loop-part-test.false c.loop-part.invariant.made

pub expressions-loop-part-preserved : goal.expressions-loop-part-preserved
expressions-loop-part-preserved t c =
    let next = next_of c.args.parts.now c.loop-part.part-index c.part-item.result c.loop-part-test.true c.part-item.is in
    record {
      made = one_made (resolved c.args.names.now) (map tree.expression_of c.loop-part.made.items) _ (source_expression_of c.part-item.result) (map source_expression_of (drop c.loop-part.part-index c.args.parts.now)) (map source_expression_of (drop (c.loop-part.part-index + 1) c.args.parts.now)) (ap (map source_expression_of) next) (pushed tree.expression_of c.loop-part.made.items _ c.in_ok-expression.field-0 _ c.in_ok-push.ensures.items c.in_ok-expression.ensures) ∙ c.loop-part.invariant.made;
      small = (subst (λ es. AreSmall (source_expressions (map source_expression_of es))) next c.loop-part.invariant.small).1;
    }
