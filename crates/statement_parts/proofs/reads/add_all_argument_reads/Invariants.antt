-- What is still to be added are the reads of the arguments that are left.
use Rattle.std.proofs.Common.{◌≡◌, ◌++◌, map, drop, string_bytes}
use Rattle.statement_parts.specs.Places.{names_around}
use Rattle.statement_parts.specs.Statements.{plain_argument}
use Rattle.statement_parts.specs.Reads.{all_argument_reads}
use Rattle.statement_parts.proofs.reads.add_all_argument_reads.Given as goal

abbrev pub invariant-loop-argument : goal.invariant-loop-argument
invariant-loop-argument l =
    map string_bytes l.found.items ++ all_argument_reads (names_around l.around) (map plain_argument (drop l.argument-index l.arguments))
    ≡ map string_bytes l.initial.found.items ++ all_argument_reads (names_around l.around) (map plain_argument l.arguments)
