-- Each clause of `parse` is about one fault.
use Rattle.std.proofs.Common.{◌≡◌, ℕ, List, [], map}
use Rattle.std.specs.Prelude.{IfErr, IfOk, Result, Ok, Err}
use Rattle.model.specs.Syntax.{Module}
use Rattle.model.specs.Elaboration.{declared, faults}
use Rattle.model.specs.Elaboration as model
use Rattle.model.specs.SourceTrees.{module_of}
use Rattle.design.specs.Compiled.{Compiled, design_of}
use Rattle.tokens.specs.Lexing.{Stops, stray, bad_number}
use Rattle.vparse.specs.Spells.{Spells, IsUnspelledAt, IsDeepText, IsDeepTextAt}
use Rattle.vparse.specs.declared.parser.ParseFault.{ParseFault}
use Rattle.vparse.specs.declared.parser.ParseFault.TheVariants.{Byte, Syntax, Literal, Deep, Unsized, Memory}
use Rattle.frontend.specs.declared.source.SourceFault.{SourceFault}
use Rattle.frontend.specs.declared.source.SourceFault.TheVariants.{Parse, Elaborate}
use Rattle.frontend.specs.Sources.{IsDesignOf, IsFaultOfModule, IsParseFaultOf, IsSourceFault}
use Rattle.frontend.proofs.source.read_design.Goals as goal

text_fault : {X : Type 0} (source : List ℕ) (result : Result X ParseFault) (fault : ParseFault) → result ≡ Err fault
    → ((place : ℕ) → result ≡ Err (Byte place) → Stops source stray place)
    → ((place : ℕ) → result ≡ Err (Literal place) → Stops source bad_number place)
    → ((n : ℕ) → result ≡ Err (Syntax n) → IsUnspelledAt source n)
    → ((n : ℕ) → result ≡ Err (Unsized n) → IsUnspelledAt source n)
    → ((n : ℕ) → result ≡ Err (Deep n) → IsDeepTextAt source n) → IsParseFaultOf source fault
text_fault source result (Byte place) is byte literal syntax no_size deep = byte place is
text_fault source result (Literal place) is byte literal syntax no_size deep = literal place is
text_fault source result (Syntax token) is byte literal syntax no_size deep = syntax token is
text_fault source result (Unsized token) is byte literal syntax no_size deep = no_size token is
text_fault source result (Deep token) is byte literal syntax no_size deep = deep token is
text_fault source result Memory is byte literal syntax no_size deep = tt

design_found : {E : Type 0} (source : List ℕ) (parsed : Module) (result : Result Compiled E) → Spells parsed source → ¬ (IsDeepText source) → IfOk result (λ d. faults parsed ≡ [])
    → IfOk result (λ d. design_of d ≡ model.design_of_module parsed) → IfOk result (λ d. d.names ≡ map (λ x. x.0) (declared parsed)) → IfOk result (λ d. IsDesignOf source d)
design_found source parsed (Ok d) spells shallow faultless design names = record {
  parsed = parsed;
  spells = spells;
  shallow = shallow;
  faultless = faultless;
  is_design = design;
  names = names;
}
design_found source parsed (Err e) spells shallow faultless design names = tt

module_fault : {X : Type 0} (source : List ℕ) (parsed : Module) (result : Result X SourceFault) → Spells parsed source → ¬ (IsDeepText source) → IfErr result (IsFaultOfModule (faults parsed))
    → IfErr result (IsSourceFault source)
module_fault source parsed (Ok x) spells shallow first = tt
module_fault source parsed (Err (Parse fault)) spells shallow first = absurd first
module_fault source parsed (Err (Elaborate fault)) spells shallow first = record { parsed = parsed; spells = spells; shallow = shallow; is_first = first }

-- These two are written out, since the search for them is long.
pub returns-clause-design : goal.returns-clause-design
returns-clause-design c =
    let d = c.designed.ensures in
    design_found c.args.source.now (module_of c.in-Ok.module) c.designed.result c.in-Ok.ensures.spelled c.in-Ok.ensures.shallow d.faultless d.design d.names

pub returns-clause-fault : goal.returns-clause-fault
returns-clause-fault c = module_fault c.args.source.now (module_of c.in-Ok.module) c.designed.result c.in-Ok.ensures.spelled c.in-Ok.ensures.shallow c.designed.ensures.fault

pub returns-in-Err-clause-fault : goal.returns-in-Err-clause-fault
returns-in-Err-clause-fault c =
    let e = c.parse.ensures in
    text_fault c.args.source.now c.parse.result c.in-Err.fault c.in-Err.is e.byte e.literal e.syntax e.no_size e.deep_first
