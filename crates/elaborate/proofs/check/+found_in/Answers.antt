use Rattle.std.proofs.Common.{◌+◌, map, drop, sym, ap, subst, ◌∙◌}
use Rattle.model.specs.SourceTrees.{source_statement_of, source_statements}
use Rattle.elaborate.specs.FirstFindings.{or_fault, first_finding, found_in, all_found_in}
use Rattle.elaborate.specs.Formed.{AreFormedStatements}
use Rattle.elaborate.proofs.Found.{or_else_assoc}
use Rattle.elaborate.proofs.Turns.{next_of}
use Rattle.elaborate.proofs.check.+found_in.Goals as goal

pub block-loop-s-preserved : goal.block-loop-s-preserved
block-loop-s-preserved t c =
    let ds = c.args.names.now in
    let others = source_statements (map source_statement_of (drop (c.loop-s.s-index + 1) c.args.body.now)) in
    let next = next_of c.args.body.now c.loop-s.s-index c.s-item.result c.loop-s-test.true c.s-item.is in
    record {
      found =
          c.loop-s.invariant.found ∙ ap (λ ss. or_fault (first_finding c.loop-s.found) (all_found_in ds (source_statements (map source_statement_of ss)))) next
          ∙ sym (or_else_assoc (first_finding c.loop-s.found) (found_in ds (source_statement_of c.s-item.result)) (all_found_in ds others))
          ∙ ap (λ o. or_fault o (all_found_in ds others)) (sym (c.first-found.ensures ∙ ap (or_fault (first_finding c.loop-s.found)) c.statement.ensures.found));
      formed = λ rest. c.loop-s.invariant.formed (subst (λ ss. AreFormedStatements (source_statements (map source_statement_of ss))) (sym next) (c.statement.ensures.formed, rest));
    }
