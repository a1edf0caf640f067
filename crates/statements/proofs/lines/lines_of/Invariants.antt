-- Those of what is left are those of all.
use Rattle.std.proofs.Common.{◌≡◌, map, option_map, length}
use Rattle.std.specs.List.{filter}
use Rattle.statements.specs.PlainStatementTokens.{plain_statement_token}
use Rattle.statements.specs.StatementLines.{is_sought}
use Rattle.statements.proofs.lines.lines_of.Given as goal

abbrev pub invariant-loop-left : goal.invariant-loop-left
invariant-loop-left l =
    filter (is_sought l.sought.part l.sought.process (option_map (λ name. name.now) l.sought.name)) (map plain_statement_token l.left)
    ≡ filter (is_sought l.sought.part l.sought.process (option_map (λ name. name.now) l.sought.name)) (map plain_statement_token l.initial.left)

abbrev pub decreases-loop-left : goal.decreases-loop-left
decreases-loop-left l = length l.left
