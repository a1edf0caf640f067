-- The reads of one target more.
use Rattle.std.proofs.Common.{map, string_bytes, refl, arith}
use Rattle.syntax_tree.specs.Expressions.{plain_expression_of, plain_expressions}
use Rattle.statement_parts.specs.Places.{names_around}
use Rattle.statement_parts.specs.Reads.{target_reads, all_target_reads}
use Rattle.statement_parts.proofs.Gathering.{next_added}
use Rattle.statement_parts.proofs.reads.+targets.Goals as goal

pub add_all_target_reads-loop-part-preserved : goal.add_all_target_reads-loop-part-preserved
add_all_target_reads-loop-part-preserved t c =
    next_added (λ ps. all_target_reads (names_around c.args.around) (plain_expressions (map plain_expression_of ps))) (λ p. target_reads (names_around c.args.around) (plain_expression_of p)) c.args.parts.now c.loop-part.part-index c.part-item.result
    (map string_bytes c.loop-part.found.items) (map string_bytes c.add_target_reads.new.found.items) _
    (λ p ps. refl) (omega arith) c.part-item.is c.in_ok-add_target_reads.ensures c.loop-part.invariant
