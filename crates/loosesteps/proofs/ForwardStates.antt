-- A state of which the first update of a class is brought before those in front of it.
use Rattle.std.proofs.Common.{◌≡◌, ℕ, ◌+◌, ◌≤◌, List, [], ◌∷◌, map, get_or, sym, subst}
use Rattle.std.specs.Prelude.{remove}
use Rattle.model.specs.States.{State, Event, Action}
use Rattle.orders.specs.Alike.{EventsRise, IsInOrder}
use Rattle.loose.specs.Loose.{AlikeIn, updates_class}
use Rattle.loose.proofs.ClassStates.{states_in-same}
use Rattle.loosesteps.specs.Classes.{IsFirstAt}
use Rattle.loosesteps.proofs.Forward.{forward_alike}

-- it is alike in classes
pub forward_states : (class : ℕ → ℕ) (c at : ℕ) (d : Action) (s : State) (ys : List Event) → IsFirstAt (updates_class class c) s.active at
    → map (λ e. e.1) ys ≡ get_or (map (λ e. e.1) s.active) at d ∷ remove (map (λ e. e.1) s.active) at → AlikeIn class s (record s { active = ys })
forward_states class c at d s ys first is =
    let same : AlikeIn class s s = states_in-same class s in
    record { time = same.time; store = same.store; processes = same.processes; active = forward_alike class c at d s.active ys first is; inactive = same.inactive; nonblocking = same.nonblocking; monitor = same.monitor; future_inactive = same.future_inactive; future_nonblocking = same.future_nonblocking; finished = same.finished }

-- numbers rise from one on, below another
abbrev NumbersRise : ℕ → List ℕ → ℕ → Type 0
NumbersRise from [] to = from ≤ to
NumbersRise from (n ∷ ns) to = (from ≤ n) × NumbersRise (n + 1) ns to

numbers_of : (from to : ℕ) (es : List Event) → EventsRise from es to → NumbersRise from (map (λ e. e.0) es) to
numbers_of from to [] h = h
numbers_of from to (e ∷ es) h = (h.0, numbers_of (e.0 + 1) to es h.1)

events_of : (from to : ℕ) (es : List Event) → NumbersRise from (map (λ e. e.0) es) to → EventsRise from es to
events_of from to [] h = h
events_of from to (e ∷ es) h = (h.0, events_of (e.0 + 1) to es h.1)

-- where the numbers stay in their places, the events stay in order
pub forward_in_order : (s : State) (ys : List Event) → map (λ e. e.0) ys ≡ map (λ e. e.0) s.active → IsInOrder s → IsInOrder (record s { active = ys })
forward_in_order s ys same order =
    record {
      active = events_of 0 s.next_event ys (subst (λ ns. NumbersRise 0 ns s.next_event) (sym same) (numbers_of 0 s.next_event s.active order.active));
      inactive = order.inactive;
      nonblocking = order.nonblocking;
      future_inactive = order.future_inactive;
      future_nonblocking = order.future_nonblocking;
    }
