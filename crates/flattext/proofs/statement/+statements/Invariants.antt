-- What is still to be put are the statements that are left.
use Rattle.std.proofs.Common.{◌≡◌, ◌++◌, map, drop}
use Rattle.model.specs.SourceTrees.{source_statement_of, source_statements}
use Rattle.flattext.specs.Statements.{statements_text}
use Rattle.flattext.proofs.statement.+statements.Given as goal

abbrev pub invariant-push_block-loop-statement : goal.invariant-push_block-loop-statement
invariant-push_block-loop-statement l =
    l.text.items ++ statements_text l.inside (source_statements (map source_statement_of (drop l.statement-index l.body)))
    ≡ l.initial.text.items ++ statements_text l.inside (source_statements (map source_statement_of l.body))
