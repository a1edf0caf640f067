-- What the module of files is, and where their faults stand.
use Rattle.std.specs.Prelude.{◌≡◌, ◌≢◌, List, length, map, true, AllPairs}
use Rattle.std.specs.List.{list_all}
use Rattle.lexemes.specs.declared.token.SourceFile.{SourceFile}
use Rattle.lexemes.specs.declared.token.VerilogToken.{VerilogToken}
use Rattle.preprocess.specs.declared.preprocess.Definition.{Definition}
use Rattle.preprocess.specs.Places.{token_stands}
use Rattle.preprocess.specs.Plain.{ArePlain}
use Rattle.model.specs.SourceTrees.{module_of}
use Rattle.model.specs.Syntax.{Module}
use Rattle.locations.specs.declared.location.ProcessLocation.{ProcessLocation}
use Rattle.syntax_tree.specs.declared.modules.ModuleDeclaration.{ModuleDeclaration}
use Rattle.design_scopes.specs.declared.scoped.ScopedDesign.{ScopedDesign}
use Rattle.design_scopes.specs.Flat.{variable_names}
use Rattle.lowering.specs.Flat.{IsFlatModule}
use Rattle.routines.specs.declared.processes.PlainDesign.{PlainDesign}
use Rattle.routines.specs.Designs.{IsPlainDesign}
use Rattle.whole_designs.specs.declared.whole.WholeDesign.{WholeDesign}

-- These are the tokens of files with the files that they include: each stands in one of them, and where the texts have no
-- directive, and no macro is defined from outside, they are those of the texts, one after another.
pub record AreTokensOf (files : List SourceFile) (definitions : List Definition) (all : List SourceFile) (tokens : List VerilogToken) : Type 0 where
  pub stand : list_all (token_stands all) tokens ≡ true
  pub plain : length definitions ≡ 0 → (ts : List VerilogToken) → ArePlain 1 files ts → tokens ≡ ts

-- A design without calls is that of some modules, with the bodies of functions and tasks in the place of their calls.
pub record IsOfModules (plain : PlainDesign) : Type 0 where
  pub modules : List ModuleDeclaration
  pub scoped : ScopedDesign
  pub expanded : IsPlainDesign modules scoped plain

-- The module is the flat module of such a design, in which no two variables have one full name.
pub record IsFlatOf (m : Module) : Type 0 where
  pub plain : PlainDesign
  pub of_modules : IsOfModules plain
  pub distinct : AllPairs (λ a b. a ≢ b) (variable_names plain.design.objects.items)
  pub flat : IsFlatModule plain.processes.items plain.design m.name m

-- Places tell of each process of a module whether it begins with `always`, in their order.
abbrev pub ArePlacesOfProcesses : Module → List ProcessLocation → Type 0
ArePlacesOfProcesses m places = map (λ p. p.always) places ≡ map (λ p. p.repeats) m.processes

-- A design is made of some modules.
pub record IsMadeDesign (made : WholeDesign) : Type 0 where
  pub flat : IsFlatOf (module_of made.module)
  pub placed : ArePlacesOfProcesses (module_of made.module) made.processes.items

-- Tokens of the files make a design, of which this is the flat module, with a place for each of its processes.
pub record IsWholeDesignOf (files : List SourceFile) (definitions : List Definition) (made : WholeDesign) : Type 0 where
  pub all : List SourceFile
  pub tokens : List VerilogToken
  pub are_tokens : AreTokensOf files definitions all tokens
  pub is_made : IsMadeDesign made
