-- What the statement tokens of the program stand for.
use Rattle.statements.specs.declared.statement_token.StatementToken.{StatementToken}
use Rattle.statements.specs.StatementTokens.{PlainStatementToken}

-- What it does, its process, its bytes, and the first of these.
abbrev pub plain_statement_token : StatementToken → PlainStatementToken
plain_statement_token t = record { part = t.part; process = t.process; text = t.text.now; byte = t.byte }
