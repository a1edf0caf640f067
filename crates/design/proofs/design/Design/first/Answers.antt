-- A process begins at a place of its own, where its whole body is left to run.
use Rattle.std.proofs.Common.{◌≡◌, ◌∙◌, ◌<◌, length, ap, sym, subst, ℕ, slice_index_or}
use Rattle.std.proofs.lemmas.Option.{slice_get_read}
use Rattle.model.specs.Turns.{whole}
use Rattle.design.specs.Compiled.{Compiled, design_of}
use Rattle.design.specs.Meaning.{IsCompiled}
use Rattle.design.specs.CodePlaces.{IsPlaceOf, remainder_at}
use Rattle.design.proofs.design.Design.first.Goals as goal

begins : (inside code : Compiled) (p place : ℕ) → inside ≡ code → IsCompiled inside → p < length code.processes
    → place ≡ slice_index_or inside.starts p place
    → IsPlaceOf (design_of code) p place × (remainder_at (design_of code) place ≡ whole (design_of code) p)
begins inside code p place same h lt is =
    let compiled : IsCompiled code = subst IsCompiled same h in
    let read : place ≡ slice_index_or code.starts p place = is ∙ ap (λ (v : Compiled). slice_index_or v.starts p place) same in
    compiled.starts p place (slice_get_read code.starts (length code.processes) p place (sym compiled.begins) lt read)

pub returns-clause-state : goal.returns-clause-state
returns-clause-state c =
    record {
      process = c.requires;
      place = (begins _ c.args.self.now c.args.process c.index.result.now c.self.view_is c.self.invariant c.requires c.index.ensures).0;
      pending = tt;
    }

pub returns-clause-whole : goal.returns-clause-whole
returns-clause-whole c =
    (begins _ c.args.self.now c.args.process c.index.result.now c.self.view_is c.self.invariant c.requires c.index.ensures).1
