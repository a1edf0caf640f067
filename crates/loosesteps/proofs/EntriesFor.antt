-- The entry of a loose transition, and where there is none.
use Rattle.std.proofs.Common.{◌≡◌, ◌≢◌, ℕ, Bool, true, false, Option, Some, None, refl, ap, ◌∙◌, subst, eq-eqb}
use Rattle.std.specs.Option.{IsSome}
use Rattle.std.specs.List.{list_any}
use Rattle.model.specs.declared.entry.Entry.{Entry}
use Rattle.model.specs.declared.entry.Entry.TheVariants.{Turn, Update, ActivateInactive, ActivateNba, ActivateMonitor, Advance}
use Rattle.model.specs.declared.entry.Refusal.{Refusal}
use Rattle.model.specs.declared.entry.Refusal.TheVariants.{Finished}
use Rattle.model.specs.States.{Action, Evaluate, State}
use Rattle.model.specs.Runs.{action_in, refused_where, turn_refusal, refusal}
use Rattle.model.specs.Laws.{evaluates}
use Rattle.loose.specs.declared.transition.LooseTransition.{LooseTransition}
use Rattle.loose.specs.declared.transition.LooseTransition.TheVariants.{Process, FirstOf, Change}
use Rattle.loose.specs.Loose.{updates_class, loose_entry_refusal, loose_transition_of_action}
use Rattle.regions.specs.Machine.{IsChange, IsTurnEntry}
use Rattle.loosesteps.specs.Classes.{HasClassAt}
use Rattle.loosesteps.specs.LooselyTaken.{IsEntryFor, MayNotBeTaken}
use Rattle.loosesteps.proofs.FirstOfKind.{none_there}

-- the entry is found

refusal_of : (s : State) (o : Option Refusal) → s.finished ≡ false → o ≡ None → refused_where s.finished Finished o ≡ None
refusal_of s o going none = rw (going, none) refl

pub turn_entry : (class : ℕ → ℕ) (s : State) (n p : ℕ) → s.finished ≡ false → action_in s.active n ≡ Some (Evaluate p) → IsEntryFor class s s (Process p) (Turn n)
turn_entry class s n p going at_n =
    record {
      transition_is = ap (loose_transition_of_action class) at_n;
      permitted = refusal_of s (turn_refusal (action_in s.active n)) going (ap turn_refusal at_n);
      same = λ is. refl;
    }

no_turn : (n : ℕ) → IsTurnEntry (Update n) → ⊥
no_turn n (m, is) = cc

pub update_entry : (class : ℕ → ℕ) (s t : State) (c n : ℕ) → HasClassAt class c t.active n → refusal t (Update n) ≡ None → IsEntryFor class s t (FirstOf c) (Update n)
update_entry class s t c n (r, v, at_n, own) permitted =
    record {
      transition_is = ap (loose_transition_of_action class) at_n ∙ ap (λ k. Some (FirstOf k)) own;
      permitted = permitted;
      same = λ is. absurd (no_turn n is);
    }

pub change_entry : (class : ℕ → ℕ) (s : State) (change : Entry) → IsChange change → refusal s change ≡ None → IsEntryFor class s s (Change change) change
change_entry class s (Turn n) change permitted = absurd change
change_entry class s (Update n) change permitted = absurd change
change_entry class s ActivateInactive change permitted = record { transition_is = refl; permitted = permitted; same = λ is. refl }
change_entry class s ActivateNba change permitted = record { transition_is = refl; permitted = permitted; same = λ is. refl }
change_entry class s ActivateMonitor change permitted = record { transition_is = refl; permitted = permitted; same = λ is. refl }
change_entry class s (Advance time) change permitted = record { transition_is = refl; permitted = permitted; same = λ is. refl }

-- none is

refused_all : (b : Bool) (o : Option Refusal) → b ≡ true → IsSome (refused_where b Finished o)
refused_all true o is = refl
refused_all false o is = cc

pub finished_may_not : (class : ℕ → ℕ) (s : State) (transition : LooseTransition) → s.finished ≡ true → MayNotBeTaken class s transition
finished_may_not class s transition finished = λ entry is. refused_all s.finished (loose_entry_refusal class s entry) finished

-- an event of a process's transition evaluates it
of_process : (class : ℕ → ℕ) (p : ℕ) (o : Option Action) → loose_transition_of_action class o ≡ Some (Process p) → (a : Action) × (o ≡ Some a) × (evaluates p a ≡ true)
of_process class p None is = cc
of_process class p (Some (Evaluate q)) is =
    let same : q ≡ p = cc in
    (Evaluate q, refl, eq-eqb q p same)
of_process class p (Some (Action.Update r v)) is = cc

-- one of a class's transition updates it
of_update : (class : ℕ → ℕ) (c : ℕ) (o : Option Action) → loose_transition_of_action class o ≡ Some (FirstOf c) → (a : Action) × (o ≡ Some a) × (updates_class class c a ≡ true)
of_update class c None is = cc
of_update class c (Some (Evaluate q)) is = cc
of_update class c (Some (Action.Update r v)) is =
    let same : class r ≡ c = cc in
    (Action.Update r v, refl, eq-eqb (class r) c same)

-- and none is of a change's
of_change : (class : ℕ → ℕ) (change : Entry) (o : Option Action) → loose_transition_of_action class o ≡ Some (Change change) → ⊥
of_change class change None is = cc
of_change class change (Some (Evaluate q)) is = cc
of_change class change (Some (Action.Update r v)) is = cc

pub process_may_not : (class : ℕ → ℕ) (s : State) (p : ℕ) → list_any (λ e. evaluates p e.1) s.active ≡ false → MayNotBeTaken class s (Process p)
process_may_not class s p none (Turn n) is =
    let (a, at_n, own) = of_process class p (action_in s.active n) is in
    absurd (none_there (evaluates p) n a s.active none at_n own)
process_may_not class s p none (Update n) is =
    let (a, at_n, own) = of_process class p (action_in s.active n) is in
    absurd (none_there (evaluates p) n a s.active none at_n own)
process_may_not class s p none ActivateInactive is = cc
process_may_not class s p none ActivateNba is = cc
process_may_not class s p none ActivateMonitor is = cc
process_may_not class s p none (Advance time) is = cc

pub class_may_not : (class : ℕ → ℕ) (s : State) (c : ℕ) → list_any (λ e. updates_class class c e.1) s.active ≡ false → MayNotBeTaken class s (FirstOf c)
class_may_not class s c none (Turn n) is =
    let (a, at_n, own) = of_update class c (action_in s.active n) is in
    absurd (none_there (updates_class class c) n a s.active none at_n own)
class_may_not class s c none (Update n) is =
    let (a, at_n, own) = of_update class c (action_in s.active n) is in
    absurd (none_there (updates_class class c) n a s.active none at_n own)
class_may_not class s c none ActivateInactive is = cc
class_may_not class s c none ActivateNba is = cc
class_may_not class s c none ActivateMonitor is = cc
class_may_not class s c none (Advance time) is = cc

some_reason : (o : Option Refusal) → o ≢ None → IsSome o
some_reason None h = absurd (h refl)
some_reason (Some r) h = refl

-- a change of the regions is refused loosely where it is refused
refused_change : (class : ℕ → ℕ) (s : State) (change entry : Entry) → IsChange entry → ◌≡◌ {A = Option LooseTransition} (Some (Change entry)) (Some (Change change)) → (IsChange change → refusal s change ≢ None) → refusal s entry ≢ None
refused_change class s change entry is same refused =
    let one : change ≡ entry = cc in
    subst (λ (e : Entry). IsChange e → refusal s e ≢ None) one refused is

pub change_may_not : (class : ℕ → ℕ) (s : State) (change : Entry) → (IsChange change → refusal s change ≢ None) → MayNotBeTaken class s (Change change)
change_may_not class s change refused (Turn n) is = absurd (of_change class change (action_in s.active n) is)
change_may_not class s change refused (Update n) is = absurd (of_change class change (action_in s.active n) is)
change_may_not class s change refused ActivateInactive is = some_reason (refusal s ActivateInactive) (refused_change class s change ActivateInactive tt is refused)
change_may_not class s change refused ActivateNba is = some_reason (refusal s ActivateNba) (refused_change class s change ActivateNba tt is refused)
change_may_not class s change refused ActivateMonitor is = some_reason (refusal s ActivateMonitor) (refused_change class s change ActivateMonitor tt is refused)
change_may_not class s change refused (Advance time) is = some_reason (refusal s (Advance time)) (refused_change class s change (Advance time) tt is refused)
