-- The events of a machine stand in order, and where the transitions led, its lines are told.
use Rattle.std.proofs.Common.{◌≡◌, ◌∙◌, [], length, ap, sym, subst}
use Rattle.orders.specs.Alike.{IsInOrder}
use Rattle.loose.specs.Classes.{class_in}
use Rattle.regions.specs.Machine.{MachineView, state_at}
use Rattle.observers.specs.Observers.{observer_of}
use Rattle.lawful.proofs.Ordered.{in_order}
use Rattle.lawful.proofs.SeenAgain.{seen_after}
use Rattle.lawful.proofs.seen_again.go_seen.Goals as goal

pub take_all_seen-taken-requires : goal.take_all_seen-taken-requires
take_all_seen-taken-requires c =
    let m = c.args.machine.now in
    let same : c.exchange_log.new.self ≡ record m { lines = [] } = c.exchange_log.ensures ∙ c.take_lines-before.ensures.rest in
    record {
      order = subst (λ (p : MachineView). IsInOrder (state_at p)) (sym same) (in_order m.code.widths (length m.core.processes) (state_at m) c.stands_in_order.ensures);
      silent = ap (λ (p : MachineView). p.lines) same;
      untold = c.requires;
    }

pub returns : goal.returns
returns c =
    let class = class_in c.args.seeing.classes.now in
    let m = c.args.machine.now in
    let same : c.exchange_log.new.self ≡ record m { lines = [] } = c.exchange_log.ensures ∙ c.take_lines-before.ensures.rest in
    let last = c.exchange_log-2.new.self in
    let taken = c.take_all_seen-taken.new.machine in
    seen_after class (observer_of c.args.seeing.observing.now) m c.exchange_log.new.self taken last c.args.moves.now c.take_all_seen-taken.new.text.items c.take_all_seen-taken.result (ap state_at same) (ap (λ (p : MachineView). p.code) same) c.exchange_log-2.ensures
    c.stands.ensures.controls c.take_all_seen-taken.ensures.seen c.take_all_seen-taken.ensures.silent
