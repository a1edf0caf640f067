-- The names by which the scopes of calls are known, which no text has.
use Rattle.std.specs.Prelude.{◌≡◌, ℕ, ◌++◌, codes, decimal}
use Rattle.statement_parts.specs.Statements.{SourceText}

-- `call`, a blank and a number: no name of a text has a blank in it (3.7.1)
abbrev pub IsCallName : SourceText → Type 0
IsCallName name = (number : ℕ) × (name ≡ codes "call " ++ decimal number)
