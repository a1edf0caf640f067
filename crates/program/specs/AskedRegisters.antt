-- Of which registers a journal is asked to be told.
use Rattle.std.specs.Prelude.{◌≡◌, ℕ, List, Option, Some, None}
use Rattle.design.specs.Compiled.{Compiled}
use Rattle.wavetexts.specs.Names.{NamesRegisters, NamesUnknown}
use Rattle.program.specs.declared.explaining.AskedRegisters.{AskedRegisters}
use Rattle.program.specs.declared.explaining.AskedRegisters.TheVariants as asked

-- these registers of a design are asked for by the names of a list, where one is given, or this is the first of the names that no register has
abbrev pub AreAsked : Compiled → Option (List ℕ) → AskedRegisters → Type 0
AreAsked design names asked.Every = names ≡ None
AreAsked design names (asked.Named registers) = (list : List ℕ) × (names ≡ Some list) × NamesRegisters design.names list registers.items
AreAsked design names (asked.Unknown name) = (list : List ℕ) × (names ≡ Some list) × NamesUnknown design.names name.now list
