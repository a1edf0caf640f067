-- Where nothing is active and an event is left, a change of the regions comes next, and it is due.
use Rattle.std.proofs.Common.{◌≡◌, map, refl, sym, subst, true, false}
use Rattle.regcells.specs.Values.{last_value}
use Rattle.design.specs.DesignInvariant.{remainder_of_state}
use Rattle.runstate.specs.GateState.{GateState, state_in}
use Rattle.runstate.specs.RunState.{gate_state_of}
use Rattle.commitgate.specs.GateAnswers.{IsBetweenRegions}
use Rattle.commitgate.specs.DueRegions.{IsDueChange}
use Rattle.commitgate.proofs.Guards.{unfinished}
use Rattle.commitgate.proofs.Rests.{next_due}
use Rattle.commitgate.proofs.state.GateState.due_change.Goals as goal

pub returns : goal.returns
returns g c =
    let n = g.K.Naming.named in
    let held = gate_state_of c.self.inside.run_state in
    let rests = subst (λ (h : GateState). IsBetweenRegions n.code h) (sym c.self.view_is) c.requires in
    let next = (c.in-Some.ensures.next (remainder_of_state n.code) (map last_value c.self.inside.run_state.holder.seen) c.in-Some.change).0 refl in
    subst (λ (h : GateState). IsDueChange (state_in n.code h) c.in-Some.change) c.self.view_is
    (next_due (state_in n.code held) c.in-Some.change (unfinished n.code n.limits held c.self.invariant.guarded rests.running) next)

pub unreachable-requires : goal.unreachable-requires
unreachable-requires g c =
    let n = g.K.Naming.named in
    let rests = subst (λ (h : GateState). IsBetweenRegions n.code h) (sym c.self.view_is) c.requires in
    let clash : false ≡ true = c.in-None.ensures.some (remainder_of_state n.code) (map last_value c.self.inside.run_state.holder.seen) rests.idle rests.left in
    cc
