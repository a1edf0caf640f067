-- A machine's events stand in the order of their numbers.
use Rattle.std.proofs.Common.{ℕ, ◌+◌, List, [], ◌∷◌}
use Rattle.model.specs.States.{Action, Event, State}
use Rattle.orders.specs.Alike.{EventsRise, TimesRise, IsInOrder}
use Rattle.regions.specs.Order.{InOrder, IsAscending, IsSoundAction, IsOrdered}

rises : (P : Action → Type 0) (low : ℕ) (es : List Event) (high : ℕ) → InOrder P low es high → EventsRise low es high
rises P low [] high h = h
rises P low (e ∷ es) high (from, sound, rest) = (from, rises P (e.0 + 1) es high rest)

times_rise : (low : ℕ) (ts : List ℕ) → IsAscending low ts → TimesRise low ts
times_rise low [] h = tt
times_rise low (t ∷ ts) (from, rest) = (from, times_rise t ts rest)

pub in_order : (widths : List ℕ) (count : ℕ) (s : State) → IsOrdered widths count s → IsInOrder s
in_order widths count s h =
    let P = IsSoundAction widths count in
    record {
      active = rises P 0 s.active s.next_event h.active;
      inactive = rises P 0 s.inactive s.next_event h.inactive;
      nonblocking = rises P 0 s.nonblocking s.next_event h.nonblocking;
      future_inactive = record {
        times = times_rise 0 _ h.future_inactive.times;
        due = λ time. rises P 0 _ s.next_event (h.future_inactive.numbers time);
      };
      future_nonblocking = record {
        times = times_rise 0 _ h.future_nonblocking.times;
        due = λ time. rises P 0 _ s.next_event (h.future_nonblocking.numbers time);
      };
    }
