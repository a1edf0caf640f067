-- The turns of the active evaluations, and then the one other entry.
use Rattle.std.proofs.Common.{[], length, refl}
use Rattle.regions.specs.Queue.{core_of, state_of}
use Rattle.regions.specs.Order.{IsSoundAction}
use Rattle.regions.proofs.Permitted.{all_permitted, in_order}
use Rattle.regions.proofs.queue.Queue.choices.Goals as goal

pub returns-clause-permitted : goal.returns-clause-permitted
returns-clause-permitted c = λ rem values.
    let q = c.args.self.now in
    all_permitted (IsSoundAction q.shared.value.widths.items (length (core_of q).processes)) (state_of rem values (core_of q)) q.updates.items q.evaluations.items q.next_event c.if-self.false refl
    c.requires.ordered.active c.next_other.result c.new.result (c.next_other.ensures rem values) c.new.ensures

pub returns-clause-order : goal.returns-clause-order
returns-clause-order c =
    let q = c.args.self.now in
    in_order (IsSoundAction q.shared.value.widths.items (length (core_of q).processes)) (state_of (λ _. []) [] (core_of q)) q.updates.items q.evaluations.items q.next_event
    c.next_other.result c.new.result c.requires.ordered.active (c.next_other.ensures (λ _. []) []) c.new.ensures
