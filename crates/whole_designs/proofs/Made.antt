-- A design that is made.
use Rattle.std.proofs.Common.{◌≡◌, ◌∙◌, ap, sym, List, [], ◌∷◌, map, length, Result, Ok, Err, true, refl, arith}
use Rattle.std.specs.Prelude.{IfOk}
use Rattle.std.specs.List.{list_all}
use Rattle.std.proofs.lemmas.List.{length-map}
use Rattle.lexemes.specs.declared.token.SourceFile.{SourceFile}
use Rattle.lexemes.specs.declared.token.VerilogToken.{VerilogToken}
use Rattle.preprocess.specs.declared.preprocess.Definition.{Definition}
use Rattle.preprocess.specs.Places.{token_stands}
use Rattle.preprocess.specs.Plain.{ArePlain}
use Rattle.model.specs.declared.tree.Module as program
use Rattle.model.specs.declared.tree.SourceProcess.{SourceProcess}
use Rattle.model.specs.Syntax as syntax
use Rattle.model.specs.SourceTrees.{module_of, source_process_of}
use Rattle.design_scopes.specs.declared.scoped.PlacedProcess.{PlacedProcess}
use Rattle.syntax_tree.specs.declared.modules.ProcessConstruct.{ProcessConstruct}
use Rattle.statement_parts.specs.Surroundings.{Surroundings}
use Rattle.statement_parts.specs.declared.plain.PlainProcess.{PlainProcess}
use Rattle.statement_parts.specs.Places.{surroundings}
use Rattle.statement_parts.specs.Statements.{SourceText}
use Rattle.design_scopes.specs.declared.scoped.ScopedDesign.{ScopedDesign}
use Rattle.routines.specs.declared.processes.PlainDesign.{PlainDesign}
use Rattle.routine_texts.specs.Processes.{StandsInText}
use Rattle.routines.specs.Designs.{AreMadeForPlaced, no_processes, process_more}
use Rattle.lowering.specs.Hidden.{HiddenList, hidden_of}
use Rattle.lowering.specs.Flat.{IsFlatModule, AreFlatProcesses, no_process, one_process}
use Rattle.whole_designs.specs.declared.whole.WholeDesign.{WholeDesign}
use Rattle.whole_designs.specs.Wholes.{IsMadeDesign, IsOfModules, IsWholeDesignOf}

-- there are as many processes in the flat module as it is made of
flat_many : (d : Surroundings) (ps : List PlainProcess) (made : List syntax.SourceProcess) (used : HiddenList) → AreFlatProcesses d ps made used → length ps ≡ length made
flat_many d _ _ _ no_process = refl
flat_many d _ _ _ (one_process p made others behind used more is rest) = let same = flat_many d others behind more rest in omega (arith, same)

-- and as many of these as the design has
plain_many : (P : ProcessConstruct → Type 0) (placed : List PlacedProcess) (made : List PlainProcess) → AreMadeForPlaced P placed made → length placed ≡ length made
plain_many P _ _ no_processes = refl
plain_many P _ _ (process_more placed made others behind is rest) = let same = plain_many P others behind rest in omega (arith, same)

-- there are as many processes in the flat module as in the design
pub as_many : (plain : PlainDesign) (name : SourceText) (m : program.Module) → IsOfModules plain → IsFlatModule plain.processes.items plain.design name (module_of m) → length plain.design.processes.items ≡ length m.procs.items
as_many plain name m of flat =
    ap (λ ps. length ps.items) of.expanded.same ∙ plain_many (StandsInText of.modules) of.scoped.processes.items plain.processes.items of.expanded.processes_made
    ∙ flat_many (surroundings plain.design) plain.processes.items (map source_process_of m.procs.items) (map hidden_of flat.hidden) flat.processes_made
    ∙ length-map m.procs.items source_process_of

-- a process of the tree begins with the word of that of the program
repeats_of : (processes : List SourceProcess) → map (λ p. p.repeats) (map source_process_of processes) ≡ map (λ p. p.repeats) processes
repeats_of [] = refl
repeats_of (p ∷ ps) = ap (λ rest. p.repeats ∷ rest) (repeats_of ps)

-- a flat module has its own name
pub own_name : (processes : List PlainProcess) (design : ScopedDesign) (name : SourceText) (m : syntax.Module) → IsFlatModule processes design name m → IsFlatModule processes design m.name m
own_name processes design name m is = record { hidden = is.hidden; named = refl; declares = is.declares; processes_made = is.processes_made }

-- a flat module with the places of its processes
pub whole_made : (plain : PlainDesign) (made : WholeDesign) → IsOfModules plain → IsFlatModule plain.processes.items plain.design (module_of made.module).name (module_of made.module)
    → map (λ p. p.always) made.processes.items ≡ map (λ p. p.repeats) made.module.procs.items → IsMadeDesign made
whole_made plain made of flat placed = record {
  flat = record { plain = plain; of_modules = of; distinct = of.expanded.distinct; flat = flat };
  placed = placed ∙ sym (repeats_of made.module.procs.items);
}

-- a design that is made of the tokens of files
pub made_of_files : {E : Type 0} (r : Result WholeDesign E) (files : List SourceFile) (definitions : List Definition) (all : List SourceFile) (tokens : List VerilogToken)
    → (length definitions ≡ 0 → (ts : List VerilogToken) → ArePlain 1 files ts → tokens ≡ ts) → list_all (token_stands all) tokens ≡ true → IfOk r IsMadeDesign → IfOk r (IsWholeDesignOf files definitions)
made_of_files (Ok made) files definitions all tokens plain stand is = record { all = all; tokens = tokens; are_tokens = record { stand = stand; plain = plain }; is_made = is }
made_of_files (Err wrong) files definitions all tokens plain stand is = tt
