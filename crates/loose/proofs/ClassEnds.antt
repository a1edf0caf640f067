-- States that are alike in classes end alike.
use Rattle.std.proofs.Common.{◌≡◌, ℕ, ◌≤◌, not, Option, Some, None, refl, sym, ap, ◌∙◌, arith}
use Rattle.model.specs.declared.end.Why.TheVariants.{Finish, Until, Entries, TooLong, Time, Memory}
use Rattle.model.specs.declared.end.End.TheVariants.{Quiet, Running, Stopped}
use Rattle.model.specs.Design.{Design}
use Rattle.model.specs.Turns.{short_turn}
use Rattle.model.specs.States.{State, Evaluate}
use Rattle.model.specs.Laws.{evaluations_in}
use Rattle.model.specs.Runs.{has_any, regions, any_of, is_quiet, is_idle, last_time, remainder_of, turn_of, HasLongTurn, IsPast, IsPastLimit}
use Rattle.orders.specs.Alike.{IsInOrder}
use Rattle.orders.proofs.EventLists.{evaluations-taken, own_evaluation, find_evaluation}
use Rattle.orders.proofs.AlikeSteps.{continuation_of}
use Rattle.loose.specs.Loose.{AlikeIn}
use Rattle.loose.specs.LooseLaws.{AlikeInStatesEndAlike}
use Rattle.loose.proofs.ClassLists.{alike_in-has_any}
use Rattle.loose.proofs.ClassFutures.{alike_future_in-has_any}
use Rattle.loose.proofs.ClassSteps.{time_same_in}

regions_same : (class : ℕ → ℕ) (s t : State) → AlikeIn class s t → regions s ≡ regions t
regions_same class s t h =
    rw (
      alike_in-has_any class s.active t.active h.active,
      alike_in-has_any class s.inactive t.inactive h.inactive,
      alike_in-has_any class s.nonblocking t.nonblocking h.nonblocking,
      ap has_any h.monitor,
      alike_future_in-has_any class s.future_inactive t.future_inactive h.future_inactive,
      alike_future_in-has_any class s.future_nonblocking t.future_nonblocking h.future_nonblocking,
    )
    refl

quiet_same : (class : ℕ → ℕ) (s t : State) → AlikeIn class s t → is_quiet s ≡ is_quiet t
quiet_same class s t h = ap (λ x. not (any_of x)) (regions_same class s t h)

idle_same : (class : ℕ → ℕ) (s t : State) → AlikeIn class s t → is_idle s ≡ is_idle t
idle_same class s t h =
    rw (
      alike_in-has_any class s.active t.active h.active,
      alike_in-has_any class s.inactive t.inactive h.inactive,
      alike_in-has_any class s.nonblocking t.nonblocking h.nonblocking,
      ap has_any h.monitor,
      alike_future_in-has_any class s.future_inactive t.future_inactive h.future_inactive,
      alike_future_in-has_any class s.future_nonblocking t.future_nonblocking h.future_nonblocking,
    )
    refl

turn_same : (class : ℕ → ℕ) (design : Design) (s t : State) (p : ℕ) → AlikeIn class s t → turn_of design s p ≡ turn_of design t p
turn_same class design s t p h =
    ap (λ ps. short_turn design p (continuation_of ps p).remainder s.store s.time) h.processes
    ∙ ap (λ x. short_turn design p (remainder_of t p) x s.time) h.store
    ∙ ap (λ x. short_turn design p (remainder_of t p) t.store x) h.time

past_same : (class : ℕ → ℕ) (s t : State) (time : ℕ) → AlikeIn class s t → IsPast s time → IsPast t time
past_same class s t time h (idle, past) =
    (sym (idle_same class s t h) ∙ idle, rw (← time_same_in class s t h) past)

past_limit_same : (class : ℕ → ℕ) (s t : State) (limit : Option ℕ) → AlikeIn class s t → IsPastLimit s limit → IsPastLimit t limit
past_limit_same class s t None h past = past
past_limit_same class s t (Some until) h past = past_same class s t until h past

long_same : (class : ℕ → ℕ) (design : Design) (s t : State) (p : ℕ) → IsInOrder s → IsInOrder t → AlikeIn class s t → HasLongTurn design s p → HasLongTurn design t p
long_same class design s t p i j h (n, at_n, long) =
    let some : 1 ≤ evaluations_in p t.active = omega (arith, evaluations-taken n p 0 s.next_event (Evaluate p) s.active i.active at_n, h.active.evaluations p, own_evaluation p) in
    let (m, at_m) = find_evaluation p 0 t.next_event t.active j.active some in
    (m, at_m, sym (turn_same class design s t p h) ∙ long)

pub alike_in_states_end_alike : AlikeInStatesEndAlike
alike_in_states_end_alike class design limits n m s t Quiet i j h other most (quiet, going) =
    (sym (quiet_same class s t h) ∙ quiet, sym h.finished ∙ going)
alike_in_states_end_alike class design limits n m s t Running i j h other most ends = ends
alike_in_states_end_alike class design limits n m s t (Stopped Finish) i j h other most finish = sym h.finished ∙ finish
alike_in_states_end_alike class design limits n m s t (Stopped Entries) i j h other most ends = absurd (other refl)
alike_in_states_end_alike class design limits n m s t (Stopped (TooLong p)) i j h other most (few, going, long) =
    (most few, sym h.finished ∙ going, long_same class design s t p i j h long)
alike_in_states_end_alike class design limits n m s t (Stopped Until) i j h other most (few, going, past) =
    (most few, sym h.finished ∙ going, past_limit_same class s t limits.until h past)
alike_in_states_end_alike class design limits n m s t (Stopped Time) i j h other most (few, going, none, past) =
    (most few, sym h.finished ∙ going, none, past_same class s t last_time h past)
alike_in_states_end_alike class design limits n m s t (Stopped Memory) i j h other most ends = ends
