-- The bytes of the tokens that were looked at.
use Rattle.std.proofs.Common.{◌≡◌, option_map, take}
use Rattle.std.specs.Prelude.{flat_map}
use Rattle.statements.specs.PlainStatementTokens.{plain_statement_token}
use Rattle.statements.specs.StatementLines.{sought_byte}
use Rattle.statements.proofs.lines.sought_bytes.Given as goal

abbrev pub invariant-loop-place : goal.invariant-loop-place
invariant-loop-place l =
    l.bytes.items ≡ flat_map (λ t. sought_byte l.sought.part l.sought.process (option_map (λ name. name.now) l.sought.name) (plain_statement_token t)) (take l.place l.tokens)
