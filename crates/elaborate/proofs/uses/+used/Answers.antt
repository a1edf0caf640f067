use Rattle.std.proofs.Common.{◌+◌, map, drop, sym, ap, ◌∙◌, rules}
use Rattle.model.specs.SourceTrees.{source_expression_of, source_expressions}
use Rattle.elaborate.specs.FirstFindings.{or_fault, all_used}
use Rattle.elaborate.proofs.Turns.{next_of}
use Rattle.elaborate.proofs.uses.+used.Goals as goal

pub expressions-loop-part-preserved : goal.expressions-loop-part-preserved
expressions-loop-part-preserved t c =
    let ds = c.args.names.now in
    c.loop-part.invariant ∙ ap (λ es. all_used ds (source_expressions (map source_expression_of es))) (next_of c.args.parts.now c.loop-part.part-index c.part-item.result c.loop-part-test.true c.part-item.is)
    ∙ ap (λ o. or_fault o (all_used ds (source_expressions (map source_expression_of (drop (c.loop-part.part-index + 1) c.args.parts.now))))) (sym c.in_ok-expression.ensures)

pub expressions-returns-in_err-expression : goal.expressions-returns-in_err-expression
expressions-returns-in_err-expression t c =
    let ds = c.args.names.now in
    let e =
    c.loop-part.invariant ∙ ap (λ es. all_used ds (source_expressions (map source_expression_of es))) (next_of c.args.parts.now c.loop-part.part-index c.part-item.result c.loop-part-test.true c.part-item.is)
    ∙ ap (λ o. or_fault o (all_used ds (source_expressions (map source_expression_of (drop (c.loop-part.part-index + 1) c.args.parts.now))))) (sym c.in_err-expression.ensures) in
    search rules
