-- Which fault of a module is told.
use Rattle.std.specs.Prelude.{◌≡◌, List, [], ◌∷◌, Option, Some, None, string_bytes}
use Rattle.model.specs.Elaboration as model
use Rattle.model.specs.Elaboration.{Fault}
use Rattle.elaborate.specs.declared.fault.ElabFault.{ElabFault}
use Rattle.elaborate.specs.declared.fault.ElabFault.TheVariants.{Undeclared, DeclaredTwice, BadRange, TooManyRegisters, TooManyProcesses, BadFormat, WideConcat, BadIndex, LongDelay, Memory}

-- the first of some faults
abbrev pub first_of_faults : List Fault → Option Fault
first_of_faults [] = None
first_of_faults (f ∷ fs) = Some f

-- what is told is the first of the faults, with its name; want of memory may be told of any module
abbrev pub IsFirstFault : ElabFault → List Fault → Type 0
IsFirstFault (Undeclared name) faults = first_of_faults faults ≡ Some (model.Undeclared (string_bytes name))
IsFirstFault (DeclaredTwice name) faults = first_of_faults faults ≡ Some (model.DeclaredTwice (string_bytes name))
IsFirstFault (BadRange name) faults = first_of_faults faults ≡ Some (model.BadRange (string_bytes name))
IsFirstFault TooManyRegisters faults = first_of_faults faults ≡ Some model.TooManyRegisters
IsFirstFault TooManyProcesses faults = first_of_faults faults ≡ Some model.TooManyProcesses
IsFirstFault BadFormat faults = first_of_faults faults ≡ Some model.BadFormat
IsFirstFault WideConcat faults = first_of_faults faults ≡ Some model.WideConcat
IsFirstFault (BadIndex name) faults = first_of_faults faults ≡ Some (model.BadIndex (string_bytes name))
IsFirstFault LongDelay faults = first_of_faults faults ≡ Some model.LongDelay
IsFirstFault Memory faults = Unit {0}
