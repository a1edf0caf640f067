-- What is still to be added are the reads of the parts that are left.
use Rattle.std.proofs.Common.{◌≡◌, ◌++◌, map, drop, string_bytes}
use Rattle.syntax_tree.specs.Expressions.{plain_expression_of, plain_expressions}
use Rattle.statement_parts.specs.Places.{names_around}
use Rattle.statement_parts.specs.Reads.{all_read_by}
use Rattle.statement_parts.proofs.reads.+expressions.Given as goal

abbrev pub invariant-add_all_reads-loop-part : goal.invariant-add_all_reads-loop-part
invariant-add_all_reads-loop-part l =
    map string_bytes l.found.items ++ all_read_by (names_around l.around) (plain_expressions (map plain_expression_of (drop l.part-index l.parts)))
    ≡ map string_bytes l.initial.found.items ++ all_read_by (names_around l.around) (plain_expressions (map plain_expression_of l.parts))
