-- What names mean where none is declared.
use Rattle.std.specs.Prelude.{None}
use Rattle.sizing.specs.Names.{Names}

-- no name means anything
abbrev pub no_names : Names
no_names = record { scope = λ within name index. None; object = λ within name. None; call = λ token. None }
