-- A machine's step from a state that is alike, told as a loose one.
use Rattle.std.proofs.Common.{◌≡◌, ℕ, List, [], ◌++◌, Option, Some, None, refl, sym, ap, ◌∙◌, subst}
use Rattle.std.specs.Prelude.{Result, Ok, Err, OnOk, OnErr}
use Rattle.std.specs.Option.{IsSome}
use Rattle.model.specs.declared.entry.Entry.{Entry}
use Rattle.model.specs.declared.entry.Entry.TheVariants.{Turn, Update, ActivateInactive, ActivateNba, ActivateMonitor, Advance}
use Rattle.model.specs.declared.entry.Refusal.{Refusal}
use Rattle.model.specs.declared.entry.Refusal.TheVariants.{Finished}
use Rattle.model.specs.Design.{Design}
use Rattle.model.specs.States.{Action, Evaluate, State, inactive_activated, nonblocking_activated, monitored, advanced}
use Rattle.model.specs.Runs.{Effect, silent, strobe_lines, action_in, action_effect, effect, update_refusal, unless_refused, refusal, step}
use Rattle.model.proofs.RunLaws.{unless_some, where_none}
use Rattle.orders.specs.Alike.{IsInOrder}
use Rattle.orders.proofs.StatesInOrder.{step_keeps_order}
use Rattle.loose.specs.declared.transition.LooseTransition.{LooseTransition}
use Rattle.loose.specs.Loose.{AlikeIn, loose_refusal, loose_step, loose_transition_of}
use Rattle.loose.proofs.ClassStates.{states_in-sym}
use Rattle.loose.proofs.ClassSteps.{alike_in_states_step_alike}
use Rattle.loose.proofs.LooseSteps.{step_is_loose}
use Rattle.design.specs.Compiled.{Compiled, design_of}
use Rattle.regions.specs.declared.machine.TakeFault.{TakeFault}
use Rattle.regions.specs.declared.machine.TakeFault.TheVariants as fault
use Rattle.regions.specs.StepLogs.{IsTaken}
use Rattle.regions.specs.Machine.{MachineView, state_at, IsNotTaken, IsTurnEntry}
use Rattle.loosesteps.specs.LooselyTaken.{IsTakenLoosely, IsNotTakenLoosely, IsEntryFor, IsPermittedWith}

-- the step from an alike state

pub taken_loosely : (class : ℕ → ℕ) (code : Compiled) (s t new : State) (before behind : List ℕ) (transition : LooseTransition) (entry : Entry) → IsInOrder s → IsInOrder t → AlikeIn class s t → IsEntryFor class s t transition entry
    → IsTaken code t before entry new behind → IsTakenLoosely class code s before transition new behind
taken_loosely class code s t new before behind transition entry i j alike is taken =
    let loosely : loose_step class (design_of code) t entry ≡ Some taken.effect = step_is_loose class (design_of code) t entry taken.effect taken.is_step in
    let (other, g, same, steps, (lines, changes, states)) = alike_in_states_step_alike class (design_of code) t s entry taken.effect j i (states_in-sym class s t alike) loosely in
    record {
      entry = other;
      effect = g;
      transition_is = same ∙ is.transition_is;
      is_step = steps;
      alike = subst (λ (u : State). AlikeIn class g.state u) taken.state_is (states_in-sym class taken.effect.state g.state states);
      lines_are = taken.lines_are ∙ ap (λ x. before ++ x) lines;
    }

-- a turn's entry is permitted where it stands
turn_permitted : (class : ℕ → ℕ) (s t : State) (transition : LooseTransition) (n : ℕ) (P : Entry → Type 0) → IsEntryFor class s t transition (Turn n) → (t ≡ s → P (Turn n)) → IsPermittedWith class s transition P
turn_permitted class s t transition n P is holds =
    let same : t ≡ s = is.same (n, refl) in
    (Turn n, subst (λ (u : State). loose_transition_of class u (Turn n) ≡ Some transition) same is.transition_is, subst (λ (u : State). refusal u (Turn n) ≡ None) same is.permitted, holds same)

-- memory is refused to a turn that is permitted
pub turn_refused_memory : (class : ℕ → ℕ) (s t : State) (transition : LooseTransition) (entry : Entry) → IsEntryFor class s t transition entry → IsTurnEntry entry → IsPermittedWith class s transition IsTurnEntry
turn_refused_memory class s t transition entry is (n, turn) =
    let its : IsEntryFor class s t transition (Turn n) = subst (λ (e : Entry). IsEntryFor class s t transition e) turn is in
    turn_permitted class s t transition n IsTurnEntry its (λ same. (n, refl))

-- an update that is permitted steps
update_steps : (design : Design) (t : State) (n : ℕ) (o : Option Action) → update_refusal t n o ≡ None → action_effect design t n o ≡ None → ⊥
update_steps design t n None permitted none = cc
update_steps design t n (Some (Evaluate p)) permitted none = cc
update_steps design t n (Some (Action.Update r v)) permitted none = cc

no_effect : (o : Option Refusal) (x : Option Effect) → o ≡ None → unless_refused o x ≡ None → x ≡ None
no_effect None x is none = none
no_effect (Some r) x is none = cc

some_effect : (o : Option Refusal) (x : Effect) → o ≡ None → unless_refused o (Some x) ≡ None → ⊥
some_effect None x is none = cc
some_effect (Some r) x is none = cc

-- a turn that is too long is so in the state before
pub turn_too_long : (class : ℕ → ℕ) (design : Design) (s t : State) (transition : LooseTransition) (entry : Entry) → IsEntryFor class s t transition entry → step design t entry ≡ None
    → IsPermittedWith class s transition (λ e. loose_step class design s e ≡ None)
turn_too_long class design s t transition (Turn n) is none =
    turn_permitted class s t transition n (λ e. loose_step class design s e ≡ None) is (λ same. subst (λ (u : State). step design u (Turn n) ≡ None) same none)
turn_too_long class design s t transition (Update n) is none =
    let permitted : update_refusal t n (action_in t.active n) ≡ None = (where_none t.finished Finished (update_refusal t n (action_in t.active n)) is.permitted).1 in
    absurd (update_steps design t n (action_in t.active n) permitted (no_effect (refusal t (Update n)) (action_effect design t n (action_in t.active n)) is.permitted none))
turn_too_long class design s t transition ActivateInactive is none =
    absurd (some_effect (refusal t ActivateInactive) (silent (inactive_activated t)) is.permitted none)
turn_too_long class design s t transition ActivateNba is none =
    absurd (some_effect (refusal t ActivateNba) (silent (nonblocking_activated t)) is.permitted none)
turn_too_long class design s t transition ActivateMonitor is none =
    absurd (some_effect (refusal t ActivateMonitor) (record { state = monitored t; lines = strobe_lines design t; changes = [] }) is.permitted none)
turn_too_long class design s t transition (Advance time) is none =
    absurd (some_effect (refusal t (Advance time)) (silent (advanced t time)) is.permitted none)

some_steps : (class : ℕ → ℕ) (design : Design) (s t : State) (transition : LooseTransition) (entry : Entry) (o : Option Effect) → IsInOrder s → IsInOrder t → AlikeIn class s t → IsEntryFor class s t transition entry
    → step design t entry ≡ o → IsSome o → IsPermittedWith class s transition (λ e. IsSome (loose_step class design s e))
some_steps class design s t transition entry None i j alike is steps some = cc
some_steps class design s t transition entry (Some f) i j alike is steps some =
    let (other, g, same, goes, effects) = alike_in_states_step_alike class design t s entry f j i (states_in-sym class s t alike) (step_is_loose class design t entry f steps) in
    let permitted : loose_refusal class s other ≡ None = (unless_some (loose_refusal class s other) (effect design s other) g goes).0 in
    (other, same ∙ is.transition_is, permitted, rw goes refl)

-- memory is refused where an entry is applied that steps
pub step_refused_memory : (class : ℕ → ℕ) (design : Design) (s t : State) (transition : LooseTransition) (entry : Entry) → IsInOrder s → IsInOrder t → AlikeIn class s t → IsEntryFor class s t transition entry
    → IsSome (step design t entry) → IsPermittedWith class s transition (λ e. IsSome (loose_step class design s e))
step_refused_memory class design s t transition entry i j alike is some =
    some_steps class design s t transition entry (step design t entry) i j alike is refl some

-- a machine is another one, but for the order of its active events
abbrev pub IsReordered : MachineView → MachineView → Type 0
IsReordered p m = m ≡ record p { core = record p.core { active = m.core.active } }

-- a step from the machine in which the active events stand in another order is a loose one
pub machine_taken : (class : ℕ → ℕ) (p m : MachineView) (new : State) (behind : List ℕ) (transition : LooseTransition) (entry : Entry) → IsReordered p m → IsInOrder (state_at p) → IsInOrder (state_at m) → AlikeIn class (state_at p) (state_at m)
    → IsEntryFor class (state_at p) (state_at m) transition entry → IsTaken m.code (state_at m) m.lines entry new behind → IsTakenLoosely class p.code (state_at p) p.lines transition new behind
machine_taken class p m new behind transition entry rest i j alike is taken =
    let same : m.code ≡ p.code = ap (λ (q : MachineView). q.code) rest in
    let lines : m.lines ≡ p.lines = ap (λ (q : MachineView). q.lines) rest in
    taken_loosely class p.code (state_at p) (state_at m) new p.lines behind transition entry i j alike is
    (subst (λ (code : Compiled). IsTaken code (state_at m) p.lines entry new behind) same
    (subst (λ (before : List ℕ). IsTaken m.code (state_at m) before entry new behind) lines taken))

-- why an entry isn't taken from there is why its transition isn't
pub stopped_loosely : (class : ℕ → ℕ) (p m : MachineView) (transition : LooseTransition) (entry : Entry) (f : TakeFault) → IsReordered p m → IsInOrder (state_at p) → IsInOrder (state_at m) → AlikeIn class (state_at p) (state_at m)
    → IsEntryFor class (state_at p) (state_at m) transition entry → IsNotTaken m entry f → IsNotTakenLoosely class p transition f
stopped_loosely class p m transition entry (fault.Refused r) rest i j alike is stop =
    let bad : None ≡ Some r = sym is.permitted ∙ stop in
    cc
stopped_loosely class p m transition entry fault.TooLong rest i j alike is stop =
    let same : m.code ≡ p.code = ap (λ (q : MachineView). q.code) rest in
    turn_too_long class (design_of p.code) (state_at p) (state_at m) transition entry is
    (subst (λ (code : Compiled). step (design_of code) (state_at m) entry ≡ None) same stop.1)
stopped_loosely class p m transition entry fault.TooMany rest i j alike is stop =
    let same : m.core.entries ≡ p.core.entries = ap (λ (q : MachineView). q.core.entries) rest in
    sym same ∙ stop
stopped_loosely class p m transition entry fault.ApplyMemory rest i j alike is stop =
    let same : m.code ≡ p.code = ap (λ (q : MachineView). q.code) rest in
    step_refused_memory class (design_of p.code) (state_at p) (state_at m) transition entry i j alike is
    (subst (λ (code : Compiled). IsSome (step (design_of code) (state_at m) entry)) same stop)
stopped_loosely class p m transition entry fault.Memory rest i j alike is stop =
    turn_refused_memory class (state_at p) (state_at m) transition entry is stop.1

-- a step keeps the order
pub taken_in_order : (code : Compiled) (t new : State) (before behind : List ℕ) (entry : Entry) → IsInOrder t → IsTaken code t before entry new behind → IsInOrder new
taken_in_order code t new before behind entry j taken =
    subst (λ (u : State). IsInOrder u) taken.state_is (step_keeps_order (design_of code) t entry taken.effect j taken.is_step)

-- and so does an entry that isn't taken
pub order_kept : {X E A B C : Type 0} → (r : Result X E) → OnOk r A → OnErr r B → (A → C) → (B → C) → C
order_kept (Ok x) taken err from_taken from_err = from_taken taken
order_kept (Err e) taken err from_taken from_err = from_err err
