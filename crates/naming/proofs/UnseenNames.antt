-- Names of registers.
use Rattle.std.proofs.Common.{◌≡◌, ap, sym, ℕ, ◌≤◌, List, length, Some, codes, arith}
use Rattle.std.specs.Prelude.{slice_get}
use Rattle.std.proofs.lemmas.Option.{slice_get_past}
use Rattle.design.specs.Compiled.{Compiled}
use Rattle.naming.specs.UnseenRegisters.{name_or_unknown, named_register}

-- a register of the design has this name
pub known_name : (code : Compiled) (r : ℕ) (name : List ℕ) → Some name ≡ slice_get code.names r → name ≡ named_register code r
known_name code r name is = ap name_or_unknown is

-- where there is none with a number, it has none
pub unknown_name : (code : Compiled) (r : ℕ) → length code.names ≡ length code.widths → length code.widths ≤ r → codes "?" ≡ named_register code r
unknown_name code r named past = ap name_or_unknown (sym (slice_get_past code.names r (omega (arith, named, past))))
