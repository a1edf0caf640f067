use Rattle.std.proofs.Common.{◌≡◌, ap, map, length, get_or, Some, None}
use Rattle.model.specs.States.{Evaluate}
use Rattle.model.specs.Runs.{action_in, turn_refusal}
use Rattle.regions.specs.declared.queue.Evaluation.{Evaluation}
use Rattle.regions.specs.Queue.{core_of, update_event, evaluation_event}
use Rattle.regions.specs.Find.{IsEvaluationAt}
use Rattle.regions.specs.Order.{IsSoundAction}
use Rattle.regions.proofs.Order.{rising_behind}
use Rattle.regions.proofs.Steps.{action_at}
use Rattle.regions.proofs.Refusals.{no_evaluation}
use Rattle.regions.proofs.queue.Queue.permit_turn.Goals as goal

pub returns-in-Some-clause-refused : goal.returns-in-Some-clause-refused
returns-in-Some-clause-refused c = λ rem values.
    let q = c.args.self.now in
    let d : Evaluation = record { number = 0; process = 0 } in
    let at : IsEvaluationAt q.evaluations.items c.args.number c.in-Some.at = c.in-Some.ensures in
    let action : action_in (core_of q).active c.args.number ≡ Some (Evaluate (get_or q.evaluations.items c.in-Some.at d).process) = rw (at.1 d) at (action_at rem values q c.requires.ordered c.in-Some.at d at.0) in
    rw c.if-self.false (ap turn_refusal action)

pub returns-in-None-clause-refused : goal.returns-in-None-clause-refused
returns-in-None-clause-refused c = λ rem values.
    let q = c.args.self.now in
    let none : action_in (map evaluation_event q.evaluations.items) c.args.number ≡ None = c.in-None.ensures in
    rw c.if-self.false (no_evaluation q.updates.items (map evaluation_event q.evaluations.items) c.args.number none)

pub find_evaluation-requires : goal.find_evaluation-requires
find_evaluation-requires c =
    let q = c.args.self.now in
    rising_behind (IsSoundAction q.shared.value.widths.items (length (core_of q).processes)) (map update_event q.updates.items) q.evaluations.items q.next_event c.requires.ordered.active
