-- The turns of the active evaluations, and then the one other entry.
use Rattle.std.proofs.Common.{◌∙◌, ◌++◌, ◌∷◌, [], map, length, Some, None, sym, ap, refl}
use Rattle.std.proofs.Common.{append-nil}
use Rattle.regions.specs.Queue.{core_of, state_of}
use Rattle.regions.specs.Order.{IsSoundAction}
use Rattle.regions.specs.EvaluationEntries.{turn_entry_of}
use Rattle.regions.proofs.Permitted.{all_permitted, in_order}
use Rattle.regions.proofs.queue.Queue.next_entries.Goals as goal

pub returns-in_ok-push-in-Some-clause-permitted : goal.returns-in_ok-push-in-Some-clause-permitted
returns-in_ok-push-in-Some-clause-permitted c = λ rem values.
    let q = c.args.self.now in
    all_permitted (IsSoundAction q.shared.value.widths.items (length (core_of q).processes)) (state_of rem values (core_of q)) q.updates.items q.evaluations.items q.next_event c.if-self.false refl
    c.requires.ordered.active (Some c.in-Some.entry) c.push.new.self.items (c.in-Some.ensures rem values)
    (c.in_ok-push-in-Some.ensures.items ∙ ap (λ xs. xs ++ c.in-Some.entry ∷ []) c.in_ok-entries.ensures)

pub returns-in_ok-push-in-Some-clause-order : goal.returns-in_ok-push-in-Some-clause-order
returns-in_ok-push-in-Some-clause-order c =
    let q = c.args.self.now in
    in_order (IsSoundAction q.shared.value.widths.items (length (core_of q).processes)) (state_of (λ _. []) [] (core_of q)) q.updates.items q.evaluations.items q.next_event
    (Some c.in-Some.entry) c.push.new.self.items c.requires.ordered.active (c.in-Some.ensures (λ _. []) [])
    (c.in_ok-push-in-Some.ensures.items ∙ ap (λ xs. xs ++ c.in-Some.entry ∷ []) c.in_ok-entries.ensures)

pub returns-in-None-clause-permitted : goal.returns-in-None-clause-permitted
returns-in-None-clause-permitted c = λ rem values.
    let q = c.args.self.now in
    all_permitted (IsSoundAction q.shared.value.widths.items (length (core_of q).processes)) (state_of rem values (core_of q)) q.updates.items q.evaluations.items q.next_event c.if-self.false refl
    c.requires.ordered.active None c.in_ok-entries.entries.items (c.in-None.ensures rem values)
    (c.in_ok-entries.ensures ∙ sym (append-nil (map turn_entry_of q.evaluations.items)))

pub returns-in-None-clause-order : goal.returns-in-None-clause-order
returns-in-None-clause-order c =
    let q = c.args.self.now in
    in_order (IsSoundAction q.shared.value.widths.items (length (core_of q).processes)) (state_of (λ _. []) [] (core_of q)) q.updates.items q.evaluations.items q.next_event
    None c.in_ok-entries.entries.items c.requires.ordered.active (c.in-None.ensures (λ _. []) [])
    (c.in_ok-entries.ensures ∙ sym (append-nil (map turn_entry_of q.evaluations.items)))
