-- What is made of states that are alike in classes is so too.
use Rattle.std.proofs.Common.{◌≡◌, ℕ, Bool, true, false, List, [], ◌∷◌, ◌++◌, map, Some, refl, sym, ap, ◌∙◌, if◌then◌else◌, ◌==◌}
use Rattle.std.specs.Prelude.{slice_set}
use Rattle.logic4.specs.Vector.{Vector}
use Rattle.logic4.specs.Operators.{same_vector}
use Rattle.model.specs.Expressions.{Store, value_of}
use Rattle.model.specs.Turns.{Wait, Ended, Inactive, Until, OnChange, NonblockingAssignment, Turn}
use Rattle.model.specs.States.{State, Action, Evaluate, Continuation, woken, after_wake, with_active, with_inactive, with_nonblocking, with_future_inactive, with_future_nonblocking, with_value, with_continuation, triggers_of, change, change_all, schedule, schedule_all, schedule_wait, taking, turned, updated, inactive_activated, nonblocking_activated, monitored, advanced}
use Rattle.model.specs.Runs.{action_in}
use Rattle.orders.specs.Alike.{IsInOrder}
use Rattle.orders.proofs.StatesInOrder.{in_order-change_all, in_order-schedule, in_order-schedule_all, in_order-taking}
use Rattle.loose.specs.Loose.{AlikeIn, has_earlier_of_class}
use Rattle.loose.specs.LooseLaws.{AlikeInIsEquivalence, AlikeIsAlikeIn, OneClassIsAlike}
use Rattle.loose.proofs.ClassLists.{alike_lists_in, one_class_alike, alike_in-same, alike_in-sym, alike_in-trans, alike_in-append, alike_in-grown, alike_in-evaluated, alike_in-updated}
use Rattle.loose.proofs.ClassFutures.{alike_futures_in, one_class_futures, alike_future_in-same, alike_future_in-sym, alike_future_in-trans, alike_future_in-with_due, alike_future_in-due_else}

pub states_in-same : (class : ℕ → ℕ) (s : State) → AlikeIn class s s
states_in-same class s =
    record {
      time = refl;
      store = refl;
      processes = refl;
      active = alike_in-same class s.active;
      inactive = alike_in-same class s.inactive;
      nonblocking = alike_in-same class s.nonblocking;
      monitor = refl;
      future_inactive = alike_future_in-same class s.future_inactive;
      future_nonblocking = alike_future_in-same class s.future_nonblocking;
      finished = refl;
    }

pub states_in-sym : (class : ℕ → ℕ) (s t : State) → AlikeIn class s t → AlikeIn class t s
states_in-sym class s t h =
    record {
      time = sym h.time;
      store = sym h.store;
      processes = sym h.processes;
      active = alike_in-sym class s.active t.active h.active;
      inactive = alike_in-sym class s.inactive t.inactive h.inactive;
      nonblocking = alike_in-sym class s.nonblocking t.nonblocking h.nonblocking;
      monitor = sym h.monitor;
      future_inactive = alike_future_in-sym class s.future_inactive t.future_inactive h.future_inactive;
      future_nonblocking = alike_future_in-sym class s.future_nonblocking t.future_nonblocking h.future_nonblocking;
      finished = sym h.finished;
    }

pub states_in-trans : (class : ℕ → ℕ) (s t u : State) → AlikeIn class s t → AlikeIn class t u → AlikeIn class s u
states_in-trans class s t u g h =
    record {
      time = g.time ∙ h.time;
      store = g.store ∙ h.store;
      processes = g.processes ∙ h.processes;
      active = alike_in-trans class s.active t.active u.active g.active h.active;
      inactive = alike_in-trans class s.inactive t.inactive u.inactive g.inactive h.inactive;
      nonblocking = alike_in-trans class s.nonblocking t.nonblocking u.nonblocking g.nonblocking h.nonblocking;
      monitor = g.monitor ∙ h.monitor;
      future_inactive = alike_future_in-trans class s.future_inactive t.future_inactive u.future_inactive g.future_inactive h.future_inactive;
      future_nonblocking = alike_future_in-trans class s.future_nonblocking t.future_nonblocking u.future_nonblocking g.future_nonblocking h.future_nonblocking;
      finished = g.finished ∙ h.finished;
    }

pub alike_in_is_equivalence : AlikeInIsEquivalence
alike_in_is_equivalence class = (states_in-same class, states_in-sym class, states_in-trans class)

pub alike_is_alike_in : AlikeIsAlikeIn
alike_is_alike_in class s t h =
    record {
      time = h.time;
      store = h.store;
      processes = h.processes;
      active = alike_lists_in class s.active t.active h.active;
      inactive = alike_lists_in class s.inactive t.inactive h.inactive;
      nonblocking = alike_lists_in class s.nonblocking t.nonblocking h.nonblocking;
      monitor = h.monitor;
      future_inactive = alike_futures_in class s.future_inactive t.future_inactive h.future_inactive;
      future_nonblocking = alike_futures_in class s.future_nonblocking t.future_nonblocking h.future_nonblocking;
      finished = h.finished;
    }

pub one_class_is_alike : OneClassIsAlike
one_class_is_alike s t h =
    record {
      time = h.time;
      store = h.store;
      processes = h.processes;
      active = one_class_alike s.active t.active h.active;
      inactive = one_class_alike s.inactive t.inactive h.inactive;
      nonblocking = one_class_alike s.nonblocking t.nonblocking h.nonblocking;
      monitor = h.monitor;
      future_inactive = one_class_futures s.future_inactive t.future_inactive h.future_inactive;
      future_nonblocking = one_class_futures s.future_nonblocking t.future_nonblocking h.future_nonblocking;
      finished = h.finished;
    }

-- new events

alike-with_active : (class : ℕ → ℕ) (actions others : List Action) (s t : State) → actions ≡ others → AlikeIn class s t → AlikeIn class (with_active actions s) (with_active others t)
alike-with_active class actions others s t same h =
    record { time = h.time; store = h.store; processes = h.processes; active = alike_in-grown class s.active t.active s.next_event t.next_event actions others same h.active; inactive = h.inactive; nonblocking = h.nonblocking; monitor = h.monitor; future_inactive = h.future_inactive; future_nonblocking = h.future_nonblocking; finished = h.finished }

alike-with_inactive : (class : ℕ → ℕ) (actions : List Action) (s t : State) → AlikeIn class s t → AlikeIn class (with_inactive actions s) (with_inactive actions t)
alike-with_inactive class actions s t h =
    record { time = h.time; store = h.store; processes = h.processes; active = h.active; inactive = alike_in-grown class s.inactive t.inactive s.next_event t.next_event actions actions refl h.inactive; nonblocking = h.nonblocking; monitor = h.monitor; future_inactive = h.future_inactive; future_nonblocking = h.future_nonblocking; finished = h.finished }

alike-with_nonblocking : (class : ℕ → ℕ) (actions : List Action) (s t : State) → AlikeIn class s t → AlikeIn class (with_nonblocking actions s) (with_nonblocking actions t)
alike-with_nonblocking class actions s t h =
    record { time = h.time; store = h.store; processes = h.processes; active = h.active; inactive = h.inactive; nonblocking = alike_in-grown class s.nonblocking t.nonblocking s.next_event t.next_event actions actions refl h.nonblocking; monitor = h.monitor; future_inactive = h.future_inactive; future_nonblocking = h.future_nonblocking; finished = h.finished }

alike-with_future_inactive : (class : ℕ → ℕ) (due : ℕ) (action : Action) (s t : State) → IsInOrder s → IsInOrder t → AlikeIn class s t → AlikeIn class (with_future_inactive due action s) (with_future_inactive due action t)
alike-with_future_inactive class due action s t i j h =
    record { time = h.time; store = h.store; processes = h.processes; active = h.active; inactive = h.inactive; nonblocking = h.nonblocking; monitor = h.monitor; future_inactive = alike_future_in-with_due class s.next_event t.next_event due action s.future_inactive t.future_inactive i.future_inactive.times j.future_inactive.times h.future_inactive; future_nonblocking = h.future_nonblocking; finished = h.finished }

alike-with_future_nonblocking : (class : ℕ → ℕ) (due : ℕ) (action : Action) (s t : State) → IsInOrder s → IsInOrder t → AlikeIn class s t → AlikeIn class (with_future_nonblocking due action s) (with_future_nonblocking due action t)
alike-with_future_nonblocking class due action s t i j h =
    record { time = h.time; store = h.store; processes = h.processes; active = h.active; inactive = h.inactive; nonblocking = h.nonblocking; monitor = h.monitor; future_inactive = h.future_inactive; future_nonblocking = alike_future_in-with_due class s.next_event t.next_event due action s.future_nonblocking t.future_nonblocking i.future_nonblocking.times j.future_nonblocking.times h.future_nonblocking; finished = h.finished }

alike_if : (class : ℕ → ℕ) (s t u v : State) (b c : Bool) → b ≡ c → AlikeIn class s t → AlikeIn class u v → AlikeIn class (if b then s else u) (if c then t else v)
alike_if class s t u v true true is g h = g
alike_if class s t u v false false is g h = h
alike_if class s t u v true false is g h = cc
alike_if class s t u v false true is g h = cc

-- changes

woken_same : (r : ℕ) (v : Vector) (a b : Store) (ps qs : List Continuation) → a ≡ b → ps ≡ qs → woken r (value_of a r) v ps ≡ woken r (value_of b r) v qs
woken_same r v a b ps qs g h = ap (λ x. woken r (value_of x r) v ps) g ∙ ap (λ xs. woken r (value_of b r) v xs) h

continuation_same : (r : ℕ) (v : Vector) (a b : Store) (ps qs : List Continuation) → a ≡ b → ps ≡ qs → map (after_wake r (value_of a r) v) ps ≡ map (after_wake r (value_of b r) v) qs
continuation_same r v a b ps qs g h =
    ap (λ x. map (after_wake r (value_of x r) v) ps) g ∙ ap (λ xs. map (after_wake r (value_of b r) v) xs) h

alike-with_value : (class : ℕ → ℕ) (r : ℕ) (v : Vector) (s t : State) → AlikeIn class s t → AlikeIn class (with_value r v s) (with_value r v t)
alike-with_value class r v s t h =
    alike-with_active class (woken r (value_of s.store r) v s.processes) (woken r (value_of t.store r) v t.processes)
    (record s { store = slice_set s.store r v; processes = map (after_wake r (value_of s.store r) v) s.processes })
    (record t { store = slice_set t.store r v; processes = map (after_wake r (value_of t.store r) v) t.processes })
    (woken_same r v s.store t.store s.processes t.processes h.store h.processes)
    (record { time = h.time; store = ap (λ x. slice_set x r v) h.store; processes = continuation_same r v s.store t.store s.processes t.processes h.store h.processes; active = h.active; inactive = h.inactive; nonblocking = h.nonblocking; monitor = h.monitor; future_inactive = h.future_inactive; future_nonblocking = h.future_nonblocking; finished = h.finished })

pub states_in-change : (class : ℕ → ℕ) (s t : State) (r : ℕ) (v : Vector) → AlikeIn class s t → AlikeIn class (change s r v) (change t r v)
states_in-change class s t r v h =
    alike_if class s t (with_value r v s) (with_value r v t) (same_vector (value_of s.store r) v) (same_vector (value_of t.store r) v)
    (ap (λ x. same_vector (value_of x r) v) h.store) h (alike-with_value class r v s t h)

pub states_in-change_all : (class : ℕ → ℕ) (s t : State) (ws : List (ℕ × Vector)) → AlikeIn class s t → AlikeIn class (change_all s ws) (change_all t ws)
states_in-change_all class s t [] h = h
states_in-change_all class s t (w ∷ ws) h =
    states_in-change_all class (change s w.0 w.1) (change t w.0 w.1) ws (states_in-change class s t w.0 w.1 h)

-- the events that a turn makes

alike-schedule : (class : ℕ → ℕ) (s t : State) (later : NonblockingAssignment) → IsInOrder s → IsInOrder t → AlikeIn class s t → AlikeIn class (schedule s later) (schedule t later)
alike-schedule class s t later i j h =
    alike_if class (with_nonblocking (Action.Update later.register later.value ∷ []) s) (with_nonblocking (Action.Update later.register later.value ∷ []) t)
    (with_future_nonblocking later.due (Action.Update later.register later.value) s) (with_future_nonblocking later.due (Action.Update later.register later.value) t)
    (later.due == s.time) (later.due == t.time) (ap (λ x. later.due == x) h.time)
    (alike-with_nonblocking class (Action.Update later.register later.value ∷ []) s t h)
    (alike-with_future_nonblocking class later.due (Action.Update later.register later.value) s t i j h)

pub states_in-schedule_all : (class : ℕ → ℕ) (s t : State) (nbas : List NonblockingAssignment) → IsInOrder s → IsInOrder t → AlikeIn class s t → AlikeIn class (schedule_all s nbas) (schedule_all t nbas)
states_in-schedule_all class s t [] i j h = h
states_in-schedule_all class s t (l ∷ ls) i j h =
    states_in-schedule_all class (schedule s l) (schedule t l) ls (in_order-schedule s l i) (in_order-schedule t l j) (alike-schedule class s t l i j h)

pub states_in-schedule_wait : (class : ℕ → ℕ) (p : ℕ) (wait : Wait) (s t : State) → IsInOrder s → IsInOrder t → AlikeIn class s t → AlikeIn class (schedule_wait p wait s) (schedule_wait p wait t)
states_in-schedule_wait class p Ended s t i j h = h
states_in-schedule_wait class p Inactive s t i j h = alike-with_inactive class (Evaluate p ∷ []) s t h
states_in-schedule_wait class p (Until time) s t i j h = alike-with_future_inactive class time (Evaluate p) s t i j h
states_in-schedule_wait class p (OnChange triggers) s t i j h = h

alike-with_continuation : (class : ℕ → ℕ) (p : ℕ) (turn : Turn) (s t : State) → AlikeIn class s t → AlikeIn class (with_continuation p turn s) (with_continuation p turn t)
alike-with_continuation class p turn s t h =
    record { time = h.time; store = h.store; processes = ap (λ x. slice_set x p (record { remainder = turn.rest; triggers = triggers_of turn.wait })) h.processes; active = h.active; inactive = h.inactive; nonblocking = h.nonblocking; monitor = ap (λ x. x ++ turn.strobes) h.monitor; future_inactive = h.future_inactive; future_nonblocking = h.future_nonblocking; finished = refl }

-- turns and updates

pub states_in-turned : (class : ℕ → ℕ) (s t : State) (n m p : ℕ) (turn : Turn) → IsInOrder s → IsInOrder t → AlikeIn class s t → action_in s.active n ≡ Some (Evaluate p) → action_in t.active m ≡ Some (Evaluate p)
    → AlikeIn class (turned s n p turn) (turned t m p turn)
states_in-turned class s t n m p turn i j h at_n at_m =
    let s' : State = change_all (taking n s) turn.writes in
    let t' : State = change_all (taking m t) turn.writes in
    let i' : IsInOrder s' = in_order-change_all (taking n s) turn.writes (in_order-taking n s i) in
    let j' : IsInOrder t' = in_order-change_all (taking m t) turn.writes (in_order-taking m t j) in
    let taken : AlikeIn class (taking n s) (taking m t) = record { time = h.time; store = h.store; processes = h.processes; active = alike_in-evaluated class s.active t.active p n m 0 s.next_event 0 t.next_event h.active i.active j.active at_n at_m; inactive = h.inactive; nonblocking = h.nonblocking; monitor = h.monitor; future_inactive = h.future_inactive; future_nonblocking = h.future_nonblocking; finished = h.finished } in
    let changed : AlikeIn class s' t' = states_in-change_all class (taking n s) (taking m t) turn.writes taken in
    alike-with_continuation class p turn (schedule_wait p turn.wait (schedule_all s' turn.nbas)) (schedule_wait p turn.wait (schedule_all t' turn.nbas))
    (states_in-schedule_wait class p turn.wait (schedule_all s' turn.nbas) (schedule_all t' turn.nbas)
    (in_order-schedule_all s' turn.nbas i') (in_order-schedule_all t' turn.nbas j')
    (states_in-schedule_all class s' t' turn.nbas i' j' changed))

pub states_in-updated : (class : ℕ → ℕ) (s t : State) (n m r : ℕ) (v : Vector) → IsInOrder s → IsInOrder t → AlikeIn class s t → action_in s.active n ≡ Some (Action.Update r v) → action_in t.active m ≡ Some (Action.Update r v)
    → has_earlier_of_class class (class r) s.active n ≡ false → has_earlier_of_class class (class r) t.active m ≡ false → AlikeIn class (updated s n r v) (updated t m r v)
states_in-updated class s t n m r v i j h at_n at_m first_n first_m =
    let taken : AlikeIn class (taking n s) (taking m t) = record { time = h.time; store = h.store; processes = h.processes; active = alike_in-updated class s.active t.active r n m 0 s.next_event 0 t.next_event v h.active i.active j.active at_n at_m first_n first_m; inactive = h.inactive; nonblocking = h.nonblocking; monitor = h.monitor; future_inactive = h.future_inactive; future_nonblocking = h.future_nonblocking; finished = h.finished } in
    states_in-change class (taking n s) (taking m t) r v taken

-- changes of the regions

pub states_in-inactive_activated : (class : ℕ → ℕ) (s t : State) → AlikeIn class s t → AlikeIn class (inactive_activated s) (inactive_activated t)
states_in-inactive_activated class s t h =
    record { time = h.time; store = h.store; processes = h.processes; active = alike_in-append class s.active t.active s.inactive t.inactive h.active h.inactive; inactive = alike_in-same class []; nonblocking = h.nonblocking; monitor = h.monitor; future_inactive = h.future_inactive; future_nonblocking = h.future_nonblocking; finished = h.finished }

pub states_in-nonblocking_activated : (class : ℕ → ℕ) (s t : State) → AlikeIn class s t → AlikeIn class (nonblocking_activated s) (nonblocking_activated t)
states_in-nonblocking_activated class s t h =
    record { time = h.time; store = h.store; processes = h.processes; active = alike_in-append class s.active t.active s.nonblocking t.nonblocking h.active h.nonblocking; inactive = h.inactive; nonblocking = alike_in-same class []; monitor = h.monitor; future_inactive = h.future_inactive; future_nonblocking = h.future_nonblocking; finished = h.finished }

pub states_in-monitored : (class : ℕ → ℕ) (s t : State) → AlikeIn class s t → AlikeIn class (monitored s) (monitored t)
states_in-monitored class s t h = record { time = h.time; store = h.store; processes = h.processes; active = h.active; inactive = h.inactive; nonblocking = h.nonblocking; monitor = refl; future_inactive = h.future_inactive; future_nonblocking = h.future_nonblocking; finished = h.finished }

pub states_in-advanced : (class : ℕ → ℕ) (s t : State) (time : ℕ) → AlikeIn class s t → AlikeIn class (advanced s time) (advanced t time)
states_in-advanced class s t time h =
    record { time = refl; store = h.store; processes = h.processes; active = h.future_inactive.due time; inactive = h.inactive; nonblocking = h.future_nonblocking.due time; monitor = h.monitor; future_inactive = alike_future_in-due_else class time s.future_inactive t.future_inactive h.future_inactive; future_nonblocking = alike_future_in-due_else class time s.future_nonblocking t.future_nonblocking h.future_nonblocking; finished = h.finished }
