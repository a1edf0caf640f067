-- Where none is active, no entry of the transition is permitted.
use Rattle.std.proofs.Common.{subst, sym}
use Rattle.std.proofs.lemmas.Result.{MatchResult-weaker}
use Rattle.loose.specs.declared.transition.LooseTransition.{LooseTransition}
use Rattle.regions.specs.Machine.{state_at}
use Rattle.loose.specs.Classes.{class_in}
use Rattle.loosesteps.specs.LooselyTaken.{MayNotBeTaken}
use Rattle.loosesteps.proofs.EntriesFor.{process_may_not, class_may_not}
use Rattle.loosesteps.proofs.steps.entry_for.Goals as goal

pub returns-in-Process-clause-refused : goal.returns-in-Process-clause-refused
returns-in-Process-clause-refused c =
    let class = class_in c.args.classes.now in
    let s = state_at c.args.machine.now in
    MatchResult-weaker c.turn_of.result c.turn_of.ensures (λ x h. tt)
    (λ y none. subst (λ (t : LooseTransition). MayNotBeTaken class s t) (sym c.in-Process.is) (process_may_not class s c.in-Process.process none))

pub returns-in-None-clause-refused : goal.returns-in-None-clause-refused
returns-in-None-clause-refused c =
    let class = class_in c.args.classes.now in
    let s = state_at c.args.machine.now in
    subst (λ (t : LooseTransition). MayNotBeTaken class s t) (sym c.in-FirstOf.is) (class_may_not class s c.in-FirstOf.class c.in-None.ensures.first)
