-- A node that stands at a run holds where ways may be followed from.
use Rattle.std.proofs.Common.{ℕ, List, sym, subst}
use Rattle.std.specs.Prelude.{IfOk}
use Rattle.design.specs.Compiled.{design_of}
use Rattle.loose.specs.Classes.{class_in}
use Rattle.loosewalks.specs.Sole.{IsLikeReached}
use Rattle.regions.specs.Machine.{state_at}
use Rattle.lawful.specs.LooseNodes.{IsExpandedAt}
use Rattle.lawful.proofs.Walked.{node_like_reached}
use Rattle.lawful.proofs.search.LooseRuns.ways.Goals as goal

pub expand-requires-clause-code : goal.expand-requires-clause-code
expand-requires-clause-code g c = c.requires.1.holds.ready.code_is

pub expand-requires-clause-reached : goal.expand-requires-clause-reached
expand-requires-clause-reached g c =
    let o = c.args.self.now in
    let m = c.args.node.machine.value in
    let reached = node_like_reached (class_in o.classes.items) o.analyzed_design o.limits c.args.node c.requires.0 c.requires.1 in
    subst (λ (cs : List ℕ). IsLikeReached (class_in cs) (design_of m.code) (state_at m)) (sym c.as_slice.ensures.value) reached

pub expand-requires-clause-silent : goal.expand-requires-clause-silent
expand-requires-clause-silent g c = c.requires.1.holds.ready.silent

pub returns : goal.returns
returns g c =
    let o = c.args.self.now in
    let m = c.args.node.machine.value in
    subst (λ (cs : List ℕ). IfOk c.expand.result (IsExpandedAt (class_in cs) m.code o.limits (state_at m))) c.as_slice.ensures.value c.expand.ensures
