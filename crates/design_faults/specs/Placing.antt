-- Faults with their places, and what is found of them.
use Rattle.std.specs.Prelude.{◌≡◌, ℕ, ◌-◌, Bool, true, false, List, [], ◌∷◌, length, slice_get, Option, Some, None}
use Rattle.lexemes.specs.declared.token.VerilogToken.{VerilogToken}
use Rattle.design_scopes.specs.declared.faults.DesignFault.{DesignFault}
use Rattle.design_scopes.specs.declared.faults.DesignFault.TheVariants as design
use Rattle.design_faults.specs.declared.refused.WholeFault.{WholeFault}
use Rattle.design_faults.specs.declared.refused.WholeFault.TheVariants as fault
use Rattle.design_faults.specs.declared.refused.PlacedFault.{PlacedFault}
use Rattle.design_faults.specs.declared.refused.FoundFaults.{FoundFaults}
use Rattle.design_faults.specs.declared.refused.FoundFaults.TheVariants as found

-- a fault without a place
abbrev pub without_place : WholeFault → PlacedFault
without_place wrong = record { fault = wrong; place = None; used = None }

-- a fault at a token, and at the use of the outermost macro from which that comes; without a place where there is no token
abbrev pub at_found : WholeFault → Option VerilogToken → PlacedFault
at_found wrong None = without_place wrong
at_found wrong (Some token) = record { fault = wrong; place = Some token.span; used = token.use_place }

-- the first of two tokens that is there
abbrev pub first_token : Option VerilogToken → Option VerilogToken → Option VerilogToken
first_token (Some token) other = Some token
first_token None other = other

-- the token of a number, and the last one where there are fewer
abbrev pub told_token : List VerilogToken → ℕ → Option VerilogToken
told_token tokens number = first_token (slice_get tokens number) (slice_get tokens (length tokens - 1))

-- a fault at the token of a number
abbrev pub fault_at_token : List VerilogToken → ℕ → WholeFault → PlacedFault
fault_at_token tokens number wrong = at_found wrong (told_token tokens number)

-- These faults are found; or memory is refused.
abbrev pub AreFaultsFound : List PlacedFault → FoundFaults → Type 0
AreFaultsFound faults found.Memory = Unit {0}
AreFaultsFound faults (found.Found them) = them.items ≡ faults

-- that no module is a top one: where one is asked for by its name, no module has that
abbrev pub no_top_fault : Bool → WholeFault
no_top_fault true = fault.NoTopOfName
no_top_fault false = fault.NoTop

-- Of a design that isn't made this is found, where its top module is asked for by its name or not.
abbrev pub IsFoundOf : List VerilogToken → Bool → DesignFault → FoundFaults → Type 0
IsFoundOf tokens named design.Memory them = them ≡ found.Memory
IsFoundOf tokens named (design.At token wrong) them = AreFaultsFound (fault_at_token tokens token (fault.Design wrong) ∷ []) them
IsFoundOf tokens named design.NoTopModule them = AreFaultsFound (without_place (no_top_fault named) ∷ []) them
IsFoundOf tokens named design.UnknownTopParameter them = AreFaultsFound (without_place fault.UnknownTopParameter ∷ []) them
