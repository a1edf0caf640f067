-- The flat module of a design (IEEE 1364-2005, 12.1).
use Rattle.std.specs.Prelude.{◌≡◌, ℕ, ◌-◌, nat_lt, if◌then◌else◌, List, [], ◌∷◌, ◌++◌, map, Option, None, Some, string_bytes}
use Rattle.std.specs.List.{flat_map}
use Rattle.model.specs.Syntax.{Declaration, SourceProcess, Module}
use Rattle.ranges.specs.declared.range.VectorRange.{VectorRange}
use Rattle.sizing.specs.declared.environment.ObjectValue.{ObjectValue}
use Rattle.sizing.specs.declared.environment.ObjectValue.TheVariants as worth
use Rattle.sizing.specs.declared.environment.Object.{Object}
use Rattle.sizing.specs.Names.{object_width}
use Rattle.design_scopes.specs.declared.scoped.ScopedDesign.{ScopedDesign}
use Rattle.lowering.specs.declared.hidden.Hidden.{Hidden}
use Rattle.statement_parts.specs.declared.plain.PlainProcess.{PlainProcess}
use Rattle.statement_parts.specs.Statements.{SourceText, plain_of}
use Rattle.lowering.specs.Hidden.{HiddenList, hidden_of}
use Rattle.statement_parts.specs.Surroundings.{Surroundings}
use Rattle.lowering.specs.Lowering.{Lowers}
use Rattle.statement_parts.specs.Places.{surroundings}

-- the range of so many digits
abbrev pub digits_range : ℕ → Option (ℕ × ℕ)
digits_range width = Some (width - 1, 0)

-- the range of a variable of the source, whose digits may be selected where it has one (5.2.1)
abbrev pub source_range : Option VectorRange → ℕ → Option (ℕ × ℕ)
source_range None width = None
source_range (Some r) width = digits_range width

-- the range of a hidden variable of so many digits: none where it has one
abbrev pub hidden_range : ℕ → Option (ℕ × ℕ)
hidden_range width = if nat_lt 1 width then digits_range width else None

-- the declaration of a variable
abbrev pub declared_as : SourceText → Option (ℕ × ℕ) → Declaration
declared_as name range = record { range = range; names = name ∷ [] }

-- the declaration of an object that varies; a constant has none
abbrev pub declared_by : ObjectValue → Option (ℕ × ℕ) → List Declaration
declared_by (worth.Constant v) range = []
declared_by (worth.Variable name) range = declared_as (string_bytes name) range ∷ []

abbrev pub object_declared : Object → List Declaration
object_declared o = declared_by o.value (source_range o.range (object_width o))

abbrev pub hidden_declared : Hidden → Declaration
hidden_declared h = declared_as (string_bytes h.name) (hidden_range h.width)

-- the declarations of the variables of a design, and then of the hidden ones
abbrev pub flat_declared : List Object → List Hidden → List Declaration
flat_declared objects hidden = flat_map object_declared objects ++ map hidden_declared hidden

-- A process of a design as the core has it: what its statement stands for in its scope, with the hidden variables that it has alone.
abbrev pub IsFlatProcess : Surroundings → PlainProcess → SourceProcess → HiddenList → Type 0
IsFlatProcess d p made used = (made.repeats ≡ p.repeats) × Lowers d p.scope (plain_of p.body) made.body used

-- each process of some, in their order
pub data AreFlatProcesses (d : Surroundings) : List PlainProcess → List SourceProcess → HiddenList → Type 0 where
  no_process : AreFlatProcesses d [] [] []
  one_process : (p : PlainProcess) (made : SourceProcess) (others : List PlainProcess) (behind : List SourceProcess) (used more : HiddenList) → IsFlatProcess d p made used → AreFlatProcesses d others behind more
      → AreFlatProcesses d (p ∷ others) (made ∷ behind) (used ++ more)

-- The flat module: a declaration for each variable of the design and each hidden one, and each process once, in their order. Each hidden
-- variable is that of one statement of one process alone.
pub record IsFlatModule (processes : List PlainProcess) (design : ScopedDesign) (name : SourceText) (m : Module) : Type 0 where
  pub hidden : List Hidden
  pub named : m.name ≡ name
  pub declares : m.declarations ≡ flat_declared design.objects.items hidden
  pub processes_made : AreFlatProcesses (surroundings design) processes m.processes (map hidden_of hidden)
