-- The reads of one argument more.
use Rattle.std.proofs.Common.{map, string_bytes, refl, arith}
use Rattle.statement_parts.specs.Statements.{plain_argument}
use Rattle.statement_parts.specs.Places.{names_around}
use Rattle.statement_parts.specs.Reads.{argument_reads, all_argument_reads}
use Rattle.statement_parts.proofs.Gathering.{next_added}
use Rattle.statement_parts.proofs.reads.add_all_argument_reads.Goals as goal

pub loop-argument-preserved : goal.loop-argument-preserved
loop-argument-preserved c =
    next_added (λ es. all_argument_reads (names_around c.args.around) (map plain_argument es)) (λ e. argument_reads (names_around c.args.around) (plain_argument e)) c.args.arguments.now c.loop-argument.argument-index c.argument-item.result
    (map string_bytes c.loop-argument.found.items) (map string_bytes c.add_argument_reads.new.found.items) _
    (λ e es. refl) (omega arith) c.argument-item.is c.in_ok-add_argument_reads.ensures c.loop-argument.invariant
