-- The design that a source describes, and which faults a source has.
use Rattle.std.specs.Prelude.{◌≡◌, ℕ, List, [], map}
use Rattle.tokens.specs.Lexing.{Stops, stray, bad_number}
use Rattle.model.specs.Syntax.{Module}
use Rattle.model.specs.Elaboration.{Fault, declared, faults}
use Rattle.model.specs.Elaboration as model
use Rattle.vparse.specs.Spells.{Spells, IsUnspelledAt, IsDeepText, IsDeepTextAt}
use Rattle.vparse.specs.declared.parser.ParseFault.{ParseFault}
use Rattle.vparse.specs.declared.parser.ParseFault.TheVariants.{Byte, Syntax, Literal, Deep, Unsized, Memory}
use Rattle.design.specs.Compiled.{Compiled, design_of}
use Rattle.elaborate.specs.ModuleFaults.{IsFirstFault}
use Rattle.elaborate.specs.declared.fault.ElabFault.{ElabFault}
use Rattle.frontend.specs.declared.source.SourceFault.{SourceFault}
use Rattle.frontend.specs.declared.source.SourceFault.TheVariants.{Parse, Elaborate}

-- the text spells a module without faults and nests no deeper than it may, and this is the module's design, with the
-- names of its registers
pub record IsDesignOf (source : List ℕ) (design : Compiled) : Type 0 where
  pub parsed : Module
  pub spells : Spells parsed source
  pub shallow : ¬ (IsDeepText source)
  pub faultless : faults parsed ≡ []
  pub is_design : design_of design ≡ model.design_of_module parsed
  pub names : design.names ≡ map (λ d. d.0) (declared parsed)

-- The text has this fault: its cut into tokens stops at this byte; or it is cut into tokens to its end, and these spell no
-- module, or nest too deep at this token and at none before it. Want of memory says nothing of the text.
abbrev pub IsParseFaultOf : List ℕ → ParseFault → Type 0
IsParseFaultOf source (Byte place) = Stops source stray place
IsParseFaultOf source (Literal place) = Stops source bad_number place
IsParseFaultOf source (Syntax token) = IsUnspelledAt source token
IsParseFaultOf source (Unsized token) = IsUnspelledAt source token
IsParseFaultOf source (Deep token) = IsDeepTextAt source token
IsParseFaultOf source Memory = Unit {0}

-- the text spells a module and nests no deeper than it may, and of the module this fault is told
pub record HasModuleFault (source : List ℕ) (fault : ElabFault) : Type 0 where
  pub parsed : Module
  pub spells : Spells parsed source
  pub shallow : ¬ (IsDeepText source)
  pub is_first : IsFirstFault fault (faults parsed)

-- what is told of a module with these faults: their first, and no fault of a text
abbrev pub IsFaultOfModule : List Fault → SourceFault → Type 0
IsFaultOfModule faults (Parse fault) = ⊥
IsFaultOfModule faults (Elaborate fault) = IsFirstFault fault faults

-- a fault of a source
abbrev pub IsSourceFault : List ℕ → SourceFault → Type 0
IsSourceFault source (Parse fault) = IsParseFaultOf source fault
IsSourceFault source (Elaborate fault) = HasModuleFault source fault
