-- Formats of ASCII among statements.
use Rattle.std.specs.Prelude.{◌∷◌}
use Rattle.std.specs.List.{All}
use Rattle.model.specs.Design.{Statement, Statements, all_of, inside}
use Rattle.looseruns.specs.RegisterSights.{HasAsciiFormat}

-- each of these statements, and each inside one, has a format of ASCII, if it prints
abbrev pub HaveAsciiFormats : Statements → Type 0
HaveAsciiFormats ss = All HasAsciiFormat (all_of ss)

-- so has this statement, and each inside it
abbrev pub HasAsciiFormatsIn : Statement → Type 0
HasAsciiFormatsIn s = All HasAsciiFormat (s ∷ inside s)
