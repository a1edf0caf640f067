-- The step that a machine took, or why it took none.
use Rattle.std.proofs.Common.{◌≡◌, Some, ap, sym, ◌∙◌, subst}
use Rattle.model.specs.Runs.{HasLongTurn}
use Rattle.design.specs.Compiled.{design_of}
use Rattle.orders.specs.Alike.{IsInOrder}
use Rattle.loose.specs.Classes.{class_in}
use Rattle.loosesteps.specs.LooselyTaken.{IsTakenLoosely, IsNotTakenLoosely}
use Rattle.regions.specs.Machine.{MachineView, state_at}
use Rattle.lawful.proofs.LongTurns.{stuck_is_long, permitted_goes_on}
use Rattle.lawful.proofs.Ways.{taken_is_way, long_is_way}
use Rattle.lawful.proofs.expand.way_by.Goals as goal

pub take_loosely-taken-requires : goal.take_loosely-taken-requires
take_loosely-taken-requires c =
    let lent : c.deref_mut-2.result.now ≡ c.args.machine.value = c.deref_mut-2.ensures.value ∙ (c.exchange_log.ensures ∙ c.deref_mut.ensures.value) in
    subst (λ (p : MachineView). IsInOrder (state_at p)) (sym lent) c.requires.order

pub returns-in-Ok : goal.returns-in-Ok
returns-in-Ok c =
    let next = c.next_of.result in
    let before = c.deref_mut-2.result.now in
    let lent : before ≡ c.args.machine.value = c.deref_mut-2.ensures.value ∙ (c.exchange_log.ensures ∙ c.deref_mut.ensures.value) in
    let new = c.exchange_log-2.new.self in
    let back : new ≡ c.take_loosely-taken.new.machine = c.exchange_log-2.ensures ∙ c.deref_mut-3.ensures.value in
    taken_is_way (class_in c.args.scope.classes.now) c.args.scope.limits c.args.machine.value before new c.args.transition next lent c.requires.order
    (subst (λ (p : MachineView). IsInOrder (state_at p)) (sym back) c.take_loosely-taken.ensures.order) c.requires.silent (c.is_timely_move.ensures.0 c.if-not-is_timely_move.false)
    (ap (λ (p : MachineView). p.code) back ∙ c.take_loosely-taken.ensures.code)
    (subst (λ (p : MachineView). IsTakenLoosely (class_in c.args.scope.classes.now) before.code (state_at before) before.lines c.args.transition (state_at p) p.lines) (sym back) c.in-Ok.ensures.taken)
    (ap (λ v. v.items) c.next_of.ensures.moves ∙ c.in_ok-moves.ensures)
    c.next_of.ensures.printed c.next_of.ensures.ready c.next_of.ensures.state

pub returns : goal.returns
returns c =
    let m = c.args.machine.value in
    let class = class_in c.args.scope.classes.now in
    let ended = c.in_ok-ended-in-Err.ended in
    let tells = c.in_ok-ended-in-Err.ensures.told in
    let lent : c.deref_mut-2.result.now ≡ m = c.deref_mut-2.ensures.value ∙ (c.exchange_log.ensures ∙ c.deref_mut.ensures.value) in
    let stop : IsNotTakenLoosely class m c.args.transition c.in-Err.fault = subst (λ (p : MachineView). IsNotTakenLoosely class p c.args.transition c.in-Err.fault) lent c.in-Err.ensures.stop in
    let (entry, its, permitted, stuck) = subst (IsNotTakenLoosely class m c.args.transition) c.in_ok-ended-in-Err.ensures.long stop in
    let long : HasLongTurn (design_of m.code) (state_at m) tells.process = stuck_is_long class (design_of m.code) (state_at m) entry tells.process (its ∙ ap (λ t. Some t) tells.is_turn) permitted stuck in
    long_is_way class m.code c.args.scope.limits (state_at m) c.args.transition ended c.requires.order c.requires.some_entry (permitted_goes_on class (state_at m) entry permitted) tells long
