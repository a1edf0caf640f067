-- The entry that the machine took, and that it lets no time pass if it may not.
use Rattle.std.proofs.Common.{Option, ap, subst, arith}
use Rattle.std.specs.Option.{IfSome}
use Rattle.regions.specs.Queue.{Core}
use Rattle.regions.specs.Machine.{state_at}
use Rattle.loose.specs.Classes.{class_in}
use Rattle.loosewalks.specs.declared.active.NamedEntry.{NamedEntry}
use Rattle.loosewalks.specs.LooseWalking.{IsOnlyStep}
use Rattle.loosewalks.proofs.Walks.{only_way}
use Rattle.loosewalks.proofs.PassingFirst.{entry_stays}
use Rattle.loosewalks.proofs.walk.step.Goals as goal

pub returns-in-Ok-clause-stepped : goal.returns-in-Ok-clause-stepped
returns-in-Ok-clause-stepped c =
    let class = class_in c.args.rules.classes.now in
    let old = c.args.machine.now in
    let one = subst (λ (o : Option NamedEntry). IfSome o (IsOnlyStep class c.args.rules.limits (state_at old))) c.in-Some.is c.only_entry.ensures in
    let entries = ap (λ (k : Core). k.entries) c.state.ensures in
    let count = c.in-Ok.ensures.entries in
    record { way = only_way class c.args.rules.limits old c.take.new.self c.in-Some.named one c.in-Ok.ensures.taken count; few = omega (arith, count, entries) }

pub returns-in-Ok-clause-time : goal.returns-in-Ok-clause-time
returns-in-Ok-clause-time c = λ stays.
    let class = class_in c.args.rules.classes.now in
    let s = state_at c.args.machine.now in
    let one = subst (λ (o : Option NamedEntry). IfSome o (IsOnlyStep class c.args.rules.limits s)) c.in-Some.is c.only_entry.ensures in
    entry_stays class s c.in-Some.named.entry c.in-Some.named.transition one.transition_is (c.may_be_taken.ensures c.if-not-may_be_taken.false stays)
