-- Where a run halts, and where ways by parts stand for all.
use Rattle.std.proofs.Common.{rules, subst}
use Rattle.std.specs.Prelude.{Option, IfSome}
use Rattle.std.proofs.lemmas.Result.{IfOk-weaker}
use Rattle.loose.specs.Classes.{class_in}
use Rattle.design.specs.Compiled.{design_of}
use Rattle.regions.specs.Machine.{MachineView, state_at}
use Rattle.runs.specs.Halting.{HaltsAt, GoesOn}
use Rattle.looseparts.specs.declared.parts.CoveringWays.{CoveringWays}
use Rattle.lawful.specs.ByParts.{StandForAll}
use Rattle.lawful.proofs.ByParts.{parts_expanded}
use Rattle.lawful.proofs.Expansions.{both_ok, halted}
use Rattle.lawful.proofs.expand.follow.Goals as goal

pub returns-in-Some : goal.returns-in-Some
returns-in-Some c =
    let m = c.args.machine.value in
    let halts = subst (λ (p : MachineView). HaltsAt (design_of p.code) c.args.scope.limits (state_at p) c.in-Some.end) c.deref.ensures c.in-Some.ensures.halts in
    IfOk-weaker c.halts.result _ _ (λ x (rested, none). halted (class_in c.args.scope.classes.now) m.code c.args.scope.limits (state_at m) c.in-Some.end x c.requires.order c.requires.bounded.some_entry halts rested none)
    (both_ok c.halts.result _ _ c.halts.ensures.one c.halts.ensures.none)

pub returns-in-Some-2 : goal.returns-in-Some-2
returns-in-Some-2 c =
    let class = class_in c.args.scope.classes.now in
    let limits = c.args.scope.limits in
    let m = c.args.machine.value in
    let found = c.in-Some-2.found in
    let goes_on : GoesOn limits (state_at m) = search rules in
    let here = subst (λ (o : Option CoveringWays). IfSome o (StandForAll class limits c.deref-2.result.now)) c.in-Some-2.is c.in_ok-found.ensures in
    let stand : StandForAll class limits m found = subst (λ (p : MachineView). StandForAll class limits p found) c.deref-2.ensures here in
    IfOk-weaker c.follow_parts.result _ _ (λ x followed. parts_expanded class limits m found x goes_on stand followed) c.follow_parts.ensures
