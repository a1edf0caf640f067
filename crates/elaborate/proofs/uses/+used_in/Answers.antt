use Rattle.std.proofs.Common.{◌+◌, map, drop, sym, ap, ◌∙◌, rules}
use Rattle.model.specs.SourceTrees.{source_statement_of, source_statements}
use Rattle.elaborate.specs.FirstFindings.{or_fault, all_used_in}
use Rattle.elaborate.proofs.Turns.{next_of}
use Rattle.elaborate.proofs.uses.+used_in.Goals as goal

pub block-loop-s-preserved : goal.block-loop-s-preserved
block-loop-s-preserved t c =
    let ds = c.args.names.now in
    c.loop-s.invariant ∙ ap (λ ss. all_used_in ds (source_statements (map source_statement_of ss))) (next_of c.args.body.now c.loop-s.s-index c.s-item.result c.loop-s-test.true c.s-item.is)
    ∙ ap (λ o. or_fault o (all_used_in ds (source_statements (map source_statement_of (drop (c.loop-s.s-index + 1) c.args.body.now))))) (sym c.in_ok-statement.ensures)

pub block-returns-in_err-statement : goal.block-returns-in_err-statement
block-returns-in_err-statement t c =
    let ds = c.args.names.now in
    let e =
    c.loop-s.invariant ∙ ap (λ ss. all_used_in ds (source_statements (map source_statement_of ss))) (next_of c.args.body.now c.loop-s.s-index c.s-item.result c.loop-s-test.true c.s-item.is)
    ∙ ap (λ o. or_fault o (all_used_in ds (source_statements (map source_statement_of (drop (c.loop-s.s-index + 1) c.args.body.now))))) (sym c.in_err-statement.ensures) in
    search rules
