-- Loose steps: the cases in which they are permitted, and that steps are loose ones.
use Rattle.std.proofs.Common.{◌≡◌, ℕ, false, Bool, List, [], ◌∷◌, Option, Some, None, refl, ap}
use Rattle.std.proofs.lemmas.Option.{option_and_then_some}
use Rattle.logic4.specs.Vector.{Vector}
use Rattle.model.specs.declared.entry.Refusal.{Refusal}
use Rattle.model.specs.declared.entry.Refusal.TheVariants.{Finished, EarlierUpdate}
use Rattle.model.specs.declared.entry.Entry.{Entry}
use Rattle.model.specs.declared.entry.Entry.TheVariants.{Update, ActivateInactive, ActivateNba, ActivateMonitor, Advance}
use Rattle.model.specs.Design.{Design}
use Rattle.model.specs.States.{State, Action, Evaluate, taking, start}
use Rattle.model.specs.Runs.{Effect, silent, joined, action_in, action_effect, effect, update_effect, update_refusal, refused_where, unless_refused, step, run_from}
use Rattle.model.proofs.StepLaws.{step_is_exact}
use Rattle.model.proofs.RunLaws.{unless_some, where_none}
use Rattle.orders.proofs.StatesInOrder.{in_order-change, in_order-taking, step_keeps_order}
use Rattle.orders.proofs.SearchLaws.{then_some}
use Rattle.loose.specs.Loose.{has_earlier_of_class, loose_update_refusal, loose_entry_refusal, loose_refusal, loose_step, IsPermittedLoosely, IsLooseStep, loose_run_from}
use Rattle.loose.specs.LooseLaws.{LooseStepIsExact, OneClassIsStrict, StepIsLoose, RunIsLoose, LooseStepKeepsOrder, LooseRunKeepsOrder}
use Rattle.loose.proofs.ClassLists.{fewer_earlier, one_class_earlier}

-- the cases

update_permitted : (class : ℕ → ℕ) (design : Design) (s : State) (n : ℕ) (e : Effect) (o : Option Action) → action_in s.active n ≡ o → loose_update_refusal class s n o ≡ None → action_effect design s n o ≡ Some e
    → IsPermittedLoosely class design s (Update n) e
update_permitted class design s n e None is none h = cc
update_permitted class design s n e (Some (Evaluate p)) is none h = cc
update_permitted class design s n e (Some (Action.Update r v)) is none h =
    let same : e ≡ update_effect s n r v = cc in
    (r, v, is, (where_none (has_earlier_of_class class (class r) s.active n) EarlierUpdate None none).0, same)

pub from_loose : (class : ℕ → ℕ) (design : Design) (s : State) (entry : Entry) (e : Effect) → loose_step class design s entry ≡ Some e → IsLooseStep class design s entry e
from_loose class design s (Entry.Turn n) e h = (step_is_exact design s (Entry.Turn n) e).0 h
from_loose class design s (Update n) e h =
    let parts : (loose_refusal class s (Update n) ≡ None) × (effect design s (Update n) ≡ Some e) = unless_some (loose_refusal class s (Update n)) (effect design s (Update n)) e h in
    let due : (s.finished ≡ false) × (loose_entry_refusal class s (Update n) ≡ None) = where_none s.finished Finished (loose_entry_refusal class s (Update n)) parts.0 in
    (due.0, update_permitted class design s n e (action_in s.active n) refl due.1 parts.1)
from_loose class design s ActivateInactive e h = (step_is_exact design s ActivateInactive e).0 h
from_loose class design s ActivateNba e h = (step_is_exact design s ActivateNba e).0 h
from_loose class design s ActivateMonitor e h = (step_is_exact design s ActivateMonitor e).0 h
from_loose class design s (Advance time) e h = (step_is_exact design s (Advance time) e).0 h

unfinished : (finished : Bool) (o : Option Refusal) (x : Option Effect) (e : Effect) → finished ≡ false → unless_refused o x ≡ Some e → unless_refused (refused_where finished Finished o) x ≡ Some e
unfinished finished o x e is h = rw is h

update_to : (class : ℕ → ℕ) (design : Design) (s : State) (n r : ℕ) (v : Vector) (e : Effect) → action_in s.active n ≡ Some (Action.Update r v) → has_earlier_of_class class (class r) s.active n ≡ false → e ≡ update_effect s n r v
    → unless_refused (loose_entry_refusal class s (Update n)) (effect design s (Update n)) ≡ Some e
update_to class design s n r v e is first same = rw (is, first, same) refl

pub to_loose : (class : ℕ → ℕ) (design : Design) (s : State) (entry : Entry) (e : Effect) → IsLooseStep class design s entry e → loose_step class design s entry ≡ Some e
to_loose class design s (Entry.Turn n) e h = (step_is_exact design s (Entry.Turn n) e).1 h
to_loose class design s (Update n) e (going, (r, v, is, first, same)) =
    unfinished s.finished (loose_entry_refusal class s (Update n)) (effect design s (Update n)) e going (update_to class design s n r v e is first same)
to_loose class design s ActivateInactive e h = (step_is_exact design s ActivateInactive e).1 h
to_loose class design s ActivateNba e h = (step_is_exact design s ActivateNba e).1 h
to_loose class design s ActivateMonitor e h = (step_is_exact design s ActivateMonitor e).1 h
to_loose class design s (Advance time) e h = (step_is_exact design s (Advance time) e).1 h

pub loose_step_is_exact : LooseStepIsExact
loose_step_is_exact class design s entry e = (from_loose class design s entry e, to_loose class design s entry e)

-- steps are loose ones

pub step_is_loose : StepIsLoose
step_is_loose class design s (Entry.Turn n) f h = h
step_is_loose class design s (Update n) f h =
    let (going, (r, v, is, first, same)) = (step_is_exact design s (Update n) f).0 h in
    to_loose class design s (Update n) f (going, (r, v, is, fewer_earlier class (class r) n s.active first, same))
step_is_loose class design s ActivateInactive f h = h
step_is_loose class design s ActivateNba f h = h
step_is_loose class design s ActivateMonitor f h = h
step_is_loose class design s (Advance time) f h = h

pub run_from_is_loose : (class : ℕ → ℕ) (design : Design) (e f : Effect) (entries : List Entry) → run_from design e entries ≡ Some f → loose_run_from class design e entries ≡ Some f
run_from_is_loose class design e f [] is = is
run_from_is_loose class design e f (entry ∷ entries) is =
    option_and_then_some (λ g. run_from design (joined e g) entries) (step design e.state entry) f is
    (λ g here later.
    then_some (λ x. loose_run_from class design (joined e x) entries) (loose_step class design e.state entry) g f
    (step_is_loose class design e.state entry g here) (run_from_is_loose class design (joined e g) f entries later))

pub run_is_loose : RunIsLoose
run_is_loose class design journal e is = run_from_is_loose class design (silent (start design)) e journal is

-- where all registers are of one class, a loose step is a step

one_class_refusal : (s : State) (n : ℕ) (o : Option Action) → loose_update_refusal (λ r. 0) s n o ≡ update_refusal s n o
one_class_refusal s n None = refl
one_class_refusal s n (Some (Evaluate p)) = refl
one_class_refusal s n (Some (Action.Update r v)) = ap (λ b. refused_where b EarlierUpdate None) (one_class_earlier n s.active)

pub one_class_is_strict : OneClassIsStrict
one_class_is_strict design s (Entry.Turn n) = refl
one_class_is_strict design s (Update n) =
    ap (λ o. unless_refused (refused_where s.finished Finished o) (effect design s (Update n))) (one_class_refusal s n (action_in s.active n))
one_class_is_strict design s ActivateInactive = refl
one_class_is_strict design s ActivateNba = refl
one_class_is_strict design s ActivateMonitor = refl
one_class_is_strict design s (Advance time) = refl

-- events stay in the order of their numbers

pub loose_step_keeps_order : LooseStepKeepsOrder
loose_step_keeps_order class design s (Entry.Turn n) f h is = step_keeps_order design s (Entry.Turn n) f h is
loose_step_keeps_order class design s (Update n) f h is =
    let (going, (r, v, at_n, first, same)) = from_loose class design s (Update n) f is in
    rw same (in_order-change (taking n s) r v (in_order-taking n s h))
loose_step_keeps_order class design s ActivateInactive f h is = step_keeps_order design s ActivateInactive f h is
loose_step_keeps_order class design s ActivateNba f h is = step_keeps_order design s ActivateNba f h is
loose_step_keeps_order class design s ActivateMonitor f h is = step_keeps_order design s ActivateMonitor f h is
loose_step_keeps_order class design s (Advance time) f h is = step_keeps_order design s (Advance time) f h is

pub loose_run_keeps_order : LooseRunKeepsOrder
loose_run_keeps_order class design e f [] h is =
    let same : e ≡ f = cc in
    rw (← same) h
loose_run_keeps_order class design e f (entry ∷ entries) h is =
    option_and_then_some (λ g. loose_run_from class design (joined e g) entries) (loose_step class design e.state entry) f is
    (λ g here later.
    loose_run_keeps_order class design (joined e g) f entries (loose_step_keeps_order class design e.state entry g h here) later)
