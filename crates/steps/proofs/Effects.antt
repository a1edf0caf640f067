-- What comes of a step: its effect by the entry, its values, and that its events stay sound.
use Rattle.std.proofs.Common.{◌≡◌, ℕ, suc, ◌+◌, ◌<◌, ◌≤◌, ◌==◌, ◌||◌, Bool, true, false, not, List, [], ◌∷◌, map, length, Option, Some, None, option_map, refl, sym, ◌∙◌, ap, subst, arith, if◌then◌else◌}
use Rattle.std.specs.List.{All, enumerate_from}
use Rattle.std.proofs.lemmas.List.Elements.{All-map}
use Rattle.logic4.specs.Vector.{Vector}
use Rattle.logic4.specs.Operators.{same_vector}
use Rattle.model.specs.declared.entry.Entry.{Entry}
use Rattle.model.specs.declared.entry.Entry.TheVariants as entries
use Rattle.model.specs.declared.entry.Refusal.{Refusal}
use Rattle.model.specs.declared.entry.Refusal.TheVariants.{Finished, NotDue}
use Rattle.model.specs.Design.{Design, Process}
use Rattle.model.specs.Expressions.{value_of}
use Rattle.model.specs.Turns as turns
use Rattle.model.specs.Turns.{Wait, Ended, Inactive, Until, OnChange, NonblockingAssignment}
use Rattle.model.specs.States.{Action, Evaluate, Event, State, change, change_all, schedule, schedule_all, schedule_wait, taking, turned, updated, inactive_activated, nonblocking_activated, monitored, advanced, start, unbegun, with_nonblocking, with_future_nonblocking}
use Rattle.model.specs.Runs.{Effect, silent, action_in, has_any, refused_where, entry_refusal, refusal, turn_of, turn_effect, update_effect, action_effect, effect, unless_refused, changes_of, step}
use Rattle.model.proofs.RunLaws.{where_none}
use Rattle.design.specs.Compiled.{Compiled, design_of}
use Rattle.design.specs.Fits.{FitsRegister}
use Rattle.turn.specs.declared.log.Nba.{Nba}
use Rattle.turn.specs.TurnLogs.{assignment_of}
use Rattle.turn.specs.Evaluate.{written}
use Rattle.regions.specs.Order.{InOrder, IsSoundAction, IsOrdered}
use Rattle.regions.proofs.Order.{InOrder-high}
use Rattle.regions.proofs.Kept as kept
use Rattle.steps.specs.ExplainerStanding.{IsSoundState}
use Rattle.steps.proofs.Writes.{written_append, changes_first}

-- of what a step is

permitted_effect : (o : Option Refusal) (x : Option Effect) (e : Effect) → unless_refused o x ≡ Some e → (o ≡ None) × (x ≡ Some e)
permitted_effect None x e is = (refl, is)
permitted_effect (Some r) x e is = cc

pub step_effect : (design : Design) (s : State) (entry : Entry) (e : Effect) → step design s entry ≡ Some e → (refusal s entry ≡ None) × (effect design s entry ≡ Some e)
step_effect design s entry e is = permitted_effect (refusal s entry) (effect design s entry) e is

same_effect : (e f : Effect) → Some e ≡ Some f → e ≡ f
same_effect e f is = cc

pub turn_effect_is : (design : Design) (s : State) (n p : ℕ) (turn : turns.Turn) (e : Effect) → action_in s.active n ≡ Some (Evaluate p) → turn_of design s p ≡ Some turn
    → step design s (entries.Turn n) ≡ Some e → turn_effect s n p turn ≡ e
turn_effect_is design s n p turn e action is_turn is =
    let whole : action_effect design s n (action_in s.active n) ≡ Some e = (step_effect design s (entries.Turn n) e is).1 in
    let own : option_map (turn_effect s n p) (turn_of design s p) ≡ Some e = ap (action_effect design s n) (sym action) ∙ whole in
    same_effect (turn_effect s n p turn) e (ap (option_map (turn_effect s n p)) (sym is_turn) ∙ own)

pub update_effect_is : (design : Design) (s : State) (n r : ℕ) (v : Vector) (e : Effect) → action_in s.active n ≡ Some (Action.Update r v)
    → step design s (entries.Update n) ≡ Some e → update_effect s n r v ≡ e
update_effect_is design s n r v e action is =
    let whole : action_effect design s n (action_in s.active n) ≡ Some e = (step_effect design s (entries.Update n) e is).1 in
    same_effect (update_effect s n r v) e (ap (action_effect design s n) (sym action) ∙ whole)

-- the values after changes

store_here : (b : Bool) (s : State) (r : ℕ) (v : Vector) → same_vector (value_of s.store r) v ≡ b → (change s r v).store ≡ written s.store (changes_of s.store ((r, v) ∷ []))
store_here true s r v is = rw is refl
store_here false s r v is = rw is refl

pub store_change : (s : State) (r : ℕ) (v : Vector) → (change s r v).store ≡ written s.store (changes_of s.store ((r, v) ∷ []))
store_change s r v = store_here (same_vector (value_of s.store r) v) s r v refl

pub store_change_all : (s : State) (ws : List (ℕ × Vector)) → (change_all s ws).store ≡ written s.store (changes_of s.store ws)
store_change_all s [] = refl
store_change_all s (w ∷ ws) =
    let first : List (ℕ × Vector) = changes_of s.store (w ∷ []) in
    store_change_all (change s w.0 w.1) ws
    ∙ ap (λ v. written v (changes_of v ws)) (store_change s w.0 w.1)
    ∙ sym (written_append s.store first (changes_of (written s.store first) ws))
    ∙ ap (written s.store) (sym (changes_first s.store w ws))

store_if : (b : Bool) (s t u : State) → t.store ≡ s.store → u.store ≡ s.store → (if b then t else u).store ≡ s.store
store_if true s t u h k = h
store_if false s t u h k = k

store_schedule : (s : State) (later : NonblockingAssignment) → (schedule s later).store ≡ s.store
store_schedule s later =
    store_if (later.due == s.time) s (with_nonblocking (Action.Update later.register later.value ∷ []) s)
    (with_future_nonblocking later.due (Action.Update later.register later.value) s) refl refl

store_schedule_all : (s : State) (nbas : List NonblockingAssignment) → (schedule_all s nbas).store ≡ s.store
store_schedule_all s [] = refl
store_schedule_all s (later ∷ nbas) = store_schedule_all (schedule s later) nbas ∙ store_schedule s later

store_wait : (p : ℕ) (wait : Wait) (s : State) → (schedule_wait p wait s).store ≡ s.store
store_wait p Ended s = refl
store_wait p Inactive s = refl
store_wait p (Until time) s = refl
store_wait p (OnChange triggers) s = refl

pub store_turned : (s : State) (n p : ℕ) (turn : turns.Turn) → (turned s n p turn).store ≡ written s.store (changes_of s.store turn.writes)
store_turned s n p turn =
    let t : State = change_all (taking n s) turn.writes in
    store_wait p turn.wait (schedule_all t turn.nbas) ∙ store_schedule_all t turn.nbas ∙ store_change_all (taking n s) turn.writes

pub store_updated : (s : State) (n r : ℕ) (v : Vector) → (updated s n r v).store ≡ written s.store (changes_of s.store ((r, v) ∷ []))
store_updated s n r v = store_change (taking n s) r v

-- events are sound

at_here : (b : Bool) (P : Action → Type 0) (e : Event) (rest : Option Action) (a : Action) → (if b then Some e.1 else rest) ≡ Some a → P e.1 → (rest ≡ Some a → P a) → P a
at_here true P e rest a is first others = let same : e.1 ≡ a = cc in subst P same first
at_here false P e rest a is first others = others is

pub sound_at : (P : Action → Type 0) (low : ℕ) (es : List Event) (high n : ℕ) (a : Action) → InOrder P low es high → action_in es n ≡ Some a → P a
sound_at P low [] high n a order is = cc
sound_at P low (e ∷ es) high n a order is = at_here (e.0 == n) P e (action_in es n) a is order.1 (sound_at P (e.0 + 1) es high n a order.2)

kept_state : (code : Compiled) (s : State) → IsSoundState code s → kept.IsKept code.widths (length s.processes) s
kept_state code s sound = record { ordered = sound; processes = refl }

sound_state : (code : Compiled) (count : ℕ) (t : State) → kept.IsKept code.widths count t → IsSoundState code t
sound_state code count t k = subst (λ n. IsOrdered code.widths n t) (sym k.processes) k.ordered

pub sound_turned : (code : Compiled) (s : State) (n p : ℕ) (turn : turns.Turn) (nbas : List Nba) → IsSoundState code s → action_in s.active n ≡ Some (Evaluate p)
    → map assignment_of nbas ≡ turn.nbas → All (λ x. FitsRegister code.widths x.reg x.value) nbas → IsSoundState code (turned s n p turn)
sound_turned code s n p turn nbas sound action given fits =
    let count : ℕ = length s.processes in
    let lt : p < count = sound_at (IsSoundAction code.widths count) 0 s.active s.next_event n (Evaluate p) sound.active action in
    let P : NonblockingAssignment → Type 0 = λ l. FitsRegister code.widths l.register l.value in
    let all : All P turn.nbas = subst (λ (ls : List NonblockingAssignment). All P ls) given (All-map P assignment_of nbas fits) in
    sound_state code count (turned s n p turn) (kept.turned-kept code.widths count s n p turn lt all (kept_state code s sound))

pub sound_updated : (code : Compiled) (s : State) (n r : ℕ) (v : Vector) → IsSoundState code s → IsSoundState code (updated s n r v)
sound_updated code s n r v sound =
    sound_state code (length s.processes) (updated s n r v) (kept.updated-kept code.widths (length s.processes) s n r v (kept_state code s sound))

pub update_fits : (code : Compiled) (s : State) (n r : ℕ) (v : Vector) → IsSoundState code s → action_in s.active n ≡ Some (Action.Update r v) → FitsRegister code.widths r v
update_fits code s n r v sound action = sound_at (IsSoundAction code.widths (length s.processes)) 0 s.active s.next_event n (Action.Update r v) sound.active action

none_any : (es : List Event) → has_any es ≡ false → es ≡ []
none_any [] is = refl
none_any (e ∷ es) is = cc

first_none : (a b : Bool) → (a || b) ≡ false → a ≡ false
first_none true b is = cc
first_none false b is = refl

-- nothing is active where a region changes that is later
none_active : (s : State) (b : Bool) → refused_where ((has_any s.active || b)) NotDue None ≡ None → s.active ≡ []
none_active s b is = none_any s.active (first_none (has_any s.active) b (where_none (has_any s.active || b) NotDue None is).0)

-- the events after a change of the regions are sound, which changes no register

pub record IsQuietStep (code : Compiled) (s : State) (e : Effect) : Type 0 where
  pub changes : e.changes ≡ []
  pub store : e.state.store ≡ s.store
  pub sound : IsSoundState code e.state

silent_step : (code : Compiled) (s t : State) (e : Effect) → Some (silent t) ≡ Some e → t.store ≡ s.store → IsSoundState code t → IsQuietStep code s e
silent_step code s t e is store sound =
    subst (λ (f : Effect). IsQuietStep code s f) (same_effect (silent t) e is) (record { changes = refl; store = store; sound = sound })

unrefused : (s : State) (entry : Entry) → refusal s entry ≡ None → entry_refusal s entry ≡ None
unrefused s entry is = (where_none s.finished Finished (entry_refusal s entry) is).1

pub quiet_inactive : (code : Compiled) (s : State) (e : Effect) → IsSoundState code s → step (design_of code) s entries.ActivateInactive ≡ Some e → IsQuietStep code s e
quiet_inactive code s e sound is =
    let both = step_effect (design_of code) s entries.ActivateInactive e is in
    let none : s.active ≡ [] = none_active s (not (has_any s.inactive)) (unrefused s entries.ActivateInactive both.0) in
    silent_step code s (inactive_activated s) e both.1 refl
    (sound_state code (length s.processes) (inactive_activated s) (kept.inactive_activated-kept code.widths (length s.processes) s none (kept_state code s sound)))

three : (s : State) (b c : Bool) → refused_where ((has_any s.active || b) || c) NotDue None ≡ None → s.active ≡ []
three s b c is =
    none_any s.active (first_none (has_any s.active) b (first_none (has_any s.active || b) c (where_none ((has_any s.active || b) || c) NotDue None is).0))

pub quiet_nonblocking : (code : Compiled) (s : State) (e : Effect) → IsSoundState code s → step (design_of code) s entries.ActivateNba ≡ Some e → IsQuietStep code s e
quiet_nonblocking code s e sound is =
    let both = step_effect (design_of code) s entries.ActivateNba e is in
    let none : s.active ≡ [] = three s (has_any s.inactive) (not (has_any s.nonblocking)) (unrefused s entries.ActivateNba both.0) in
    silent_step code s (nonblocking_activated s) e both.1 refl
    (sound_state code (length s.processes) (nonblocking_activated s) (kept.nonblocking_activated-kept code.widths (length s.processes) s none (kept_state code s sound)))

pub quiet_monitor : (code : Compiled) (s : State) (e : Effect) → IsSoundState code s → step (design_of code) s entries.ActivateMonitor ≡ Some e → IsQuietStep code s e
quiet_monitor code s e sound is =
    let both = step_effect (design_of code) s entries.ActivateMonitor e is in
    let sound' : IsSoundState code (monitored s) =
    record { active = sound.active; inactive = sound.inactive; nonblocking = sound.nonblocking; future_inactive = sound.future_inactive; future_nonblocking = sound.future_nonblocking } in
    subst (λ (f : Effect). IsQuietStep code s f) (same_effect _ e both.1) (record { changes = refl; store = refl; sound = sound' })

pub quiet_advance : (code : Compiled) (s : State) (time : ℕ) (e : Effect) → IsSoundState code s → step (design_of code) s (entries.Advance time) ≡ Some e → IsQuietStep code s e
quiet_advance code s time e sound is =
    let both = step_effect (design_of code) s (entries.Advance time) e is in
    silent_step code s (advanced s time) e both.1 refl
    (sound_state code (length s.processes) (advanced s time) (kept.advanced-kept code.widths (length s.processes) s time (kept_state code s sound)))

-- the start is sound

numbered_order : (widths : List ℕ) (count i : ℕ) (ps : List Process) → i + length ps ≤ count
    → InOrder (IsSoundAction widths count) i (map (λ e. (e.0, Evaluate e.0)) (enumerate_from i ps)) (i + length ps)
numbered_order widths count i [] le = omega arith
numbered_order widths count i (p ∷ ps) le = (
  omega arith,
  omega (arith, le),
  InOrder-high (IsSoundAction widths count) (i + 1) (map (λ e. (e.0, Evaluate e.0)) (enumerate_from (i + 1) ps)) (i + 1 + length ps) (i + suc (length ps)) (omega arith)
      (numbered_order widths count (i + 1) ps (omega (arith, le))),
)

begun_count : (design : Design) (i : ℕ) (ps : List Process) → length (map (λ e. unbegun design e.0) (enumerate_from i ps)) ≡ length ps
begun_count design i [] = refl
begun_count design i (p ∷ ps) = ap suc (begun_count design (i + 1) ps)

pub sound_start : (code : Compiled) → IsSoundState code (start (design_of code))
sound_start code =
    let design : Design = design_of code in
    let count : ℕ = length design.processes in
    let ordered : IsOrdered code.widths count (start design) =
    record {
      active = InOrder-high (IsSoundAction code.widths count) 0 (start design).active (0 + count) count (omega arith) (numbered_order code.widths count 0 design.processes (omega arith));
      inactive = omega arith;
      nonblocking = omega arith;
      future_inactive = record { times = tt; numbers = λ t. omega arith };
      future_nonblocking = record { times = tt; numbers = λ t. omega arith };
    } in
    subst (λ n. IsOrdered code.widths n (start design)) (sym (begun_count design 0 design.processes)) ordered
