-- What is kept is that of the tokens before, and with those of what is left all are found.
use Rattle.std.proofs.Common.{◌≡◌, ◌++◌, [], List, map, length}
use Rattle.tokens.specs.declared.token.Kind.{Kind}
use Rattle.locations.specs.PlainSpots.{plain_spot}
use Rattle.statements.specs.Contexts.{IsContext}
use Rattle.statements.specs.PlainStatementTokens.{plain_statement_token}
use Rattle.statements.specs.StatementTokens.{tokens_behind}
use Rattle.statements.proofs.statement_token.statement_tokens.Given as goal

abbrev pub invariant-loop-left : goal.invariant-loop-left
invariant-loop-left l =
    (before : List Kind) × (IsContext before l.context × (map plain_statement_token l.found.items ++ tokens_behind before (map plain_spot l.left) ≡ tokens_behind [] (map plain_spot l.initial.left)))

abbrev pub decreases-loop-left : goal.decreases-loop-left
decreases-loop-left l = length l.left
