use Rattle.std.proofs.Common.{◌+◌, ◌≤◌, map, drop, sym, ap, subst, ◌∙◌}
use Rattle.logic4.specs.Vector.{greatest_width}
use Rattle.model.specs.Elaboration.{all_resolved, resolved, widths_of}
use Rattle.model.specs.Expressions.{own_size, total_size}
use Rattle.model.specs.SourceTrees.{source_expression_of, source_expressions}
use Rattle.elaborate.specs.FirstFindings.{or_fault, first_finding, capped, found, all_found}
use Rattle.elaborate.specs.Formed.{AreFormed}
use Rattle.elaborate.proofs.Found.{or_else_assoc}
use Rattle.elaborate.proofs.Sizes.{more_size, capped_small}
use Rattle.elaborate.proofs.Turns.{next_of}
use Rattle.elaborate.proofs.check.+found.Goals as goal

pub expressions-loop-part-preserved : goal.expressions-loop-part-preserved
expressions-loop-part-preserved t c =
    let ds = c.args.names.now in
    let part = source_expression_of c.part-item.result in
    let others = source_expressions (map source_expression_of (drop (c.loop-part.part-index + 1) c.args.parts.now)) in
    let next = next_of c.args.parts.now c.loop-part.part-index c.part-item.result c.loop-part-test.true c.part-item.is in
    record {
      size =
          c.loop-part.invariant.size ∙ ap (λ es. capped (c.loop-part.size + total_size (widths_of ds) (all_resolved ds (source_expressions (map source_expression_of es))))) next
          ∙ more_size c.loop-part.size (own_size (widths_of ds) (resolved ds part)) (total_size (widths_of ds) (all_resolved ds others))
          ∙ ap (λ n. capped (n + total_size (widths_of ds) (all_resolved ds others))) (sym (c.cap-size.ensures ∙ ap (λ n. capped (c.loop-part.size + n)) c.expression-checked.ensures.size));
      small = subst (λ n. n ≤ greatest_width + 1) (sym c.cap-size.ensures) (capped_small (c.loop-part.size + c.expression-checked.result.size));
      formed = λ rest. c.loop-part.invariant.formed (subst (λ es. AreFormed (source_expressions (map source_expression_of es))) (sym next) (c.expression-checked.ensures.formed, rest));
      found =
          c.loop-part.invariant.found ∙ ap (λ es. or_fault (first_finding c.loop-part.first_finding) (all_found ds (source_expressions (map source_expression_of es)))) next
          ∙ sym (or_else_assoc (first_finding c.loop-part.first_finding) (found ds part) (all_found ds others))
          ∙ ap (λ o. or_fault o (all_found ds others)) (sym (c.first-first_finding.ensures ∙ ap (or_fault (first_finding c.loop-part.first_finding)) c.expression-checked.ensures.found));
    }
