-- A design and its processes, without calls (IEEE 1364-2005, 10, 12).
use Rattle.std.specs.Prelude.{◌≡◌, ◌≢◌, List, [], ◌∷◌, Contains, AllPairs}
use Rattle.std.specs.Borrow.{Bor}
use Rattle.design_scopes.specs.declared.scoped.PlacedProcess.{PlacedProcess}
use Rattle.design_scopes.specs.declared.scoped.ScopedDesign.{ScopedDesign}
use Rattle.design_scopes.specs.Flat.{variable_names}
use Rattle.syntax_tree.specs.declared.modules.ModuleDeclaration.{ModuleDeclaration}
use Rattle.syntax_tree.specs.declared.modules.ProcessConstruct.{ProcessConstruct}
use Rattle.statement_parts.specs.declared.plain.PlainProcess.{PlainProcess}
use Rattle.routine_texts.specs.Processes.{StandsInText}
use Rattle.routines.specs.declared.processes.PlainDesign.{PlainDesign}

-- A process is made for a placed one, of one of some of the text that stands at its token: it has the scope and the token of the placed one.
pub record IsMadeForPlaced (P : ProcessConstruct → Type 0) (placed : PlacedProcess) (made : PlainProcess) : Type 0 where
  pub construct : ProcessConstruct
  pub is_one : P construct
  pub at_token : construct.token ≡ placed.token
  pub scope : made.scope ≡ placed.scope
  pub token : made.token ≡ placed.token
  pub repeats : made.repeats ≡ construct.repeats

-- one is made for each of some placed ones, in their order
pub data AreMadeForPlaced (P : ProcessConstruct → Type 0) : List PlacedProcess → List PlainProcess → Type 0 where
  no_processes : AreMadeForPlaced P [] []
  process_more : (placed : PlacedProcess) (made : PlainProcess) (others : List PlacedProcess) (behind : List PlainProcess) → IsMadeForPlaced P placed made → AreMadeForPlaced P others behind → AreMadeForPlaced P (placed ∷ others) (made ∷ behind)

-- a process is one of a list
abbrev pub IsAmong : List (Bor ProcessConstruct) → ProcessConstruct → Type 0
IsAmong all p = (b : Bor ProcessConstruct) × Contains all b × (b.now ≡ p)

-- Processes are made for those of a design, each once and in their order, of those that modules have at their tokens.
abbrev pub ArePlainProcesses : List ModuleDeclaration → List PlacedProcess → List PlainProcess → Type 0
ArePlainProcesses modules placed made = AreMadeForPlaced (StandsInText modules) placed made

-- A design with its processes, which stay, and with no two variables of one name.
pub record IsMadeForDesign (P : ProcessConstruct → Type 0) (old : ScopedDesign) (made : PlainDesign) : Type 0 where
  pub same : made.design.processes ≡ old.processes
  pub distinct : AllPairs (λ a b. a ≢ b) (variable_names made.design.objects.items)
  pub processes_made : AreMadeForPlaced P old.processes.items made.processes.items

-- A design of modules is without calls: its processes are made of those of the modules.
abbrev pub IsPlainDesign : List ModuleDeclaration → ScopedDesign → PlainDesign → Type 0
IsPlainDesign modules old made = IsMadeForDesign (StandsInText modules) old made
