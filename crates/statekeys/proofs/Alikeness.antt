-- States of which one thing is told are alike.
use Rattle.std.proofs.Common.{◌≡◌, ℕ, List, [], map, sym, ◌∙◌, ap, subst}
use Rattle.std.proofs.lemmas.List.{append-nil}
use Rattle.logic4.specs.Vector.{Vector}
use Rattle.model.specs.Turns.{Remainder}
use Rattle.model.specs.States.{Event}
use Rattle.model.specs.Design.{Trigger}
use Rattle.orders.specs.Alike.{Alike, AreAlike, IsAlikeFuture}
use Rattle.design.specs.declared.code.ProcState.{ProcState}
use Rattle.regions.specs.Queue.{Core, state_of, standing}
use Rattle.regions.specs.ProcessWaking.{triggers_at}
use Rattle.statekeys.specs.Keys.{KeyContent, AreEvents, AreToCome, IsToldOf, IsKey, key_code}
use Rattle.statekeys.specs.KeyLaws.{KeysTellStates}
use Rattle.statekeys.proofs.KeyCodes.{key_code_tells}

pub events_alike : (updates : List (ℕ × Vector)) (processes : List ℕ) (xs ys : List Event) → AreEvents updates processes xs
    → AreEvents updates processes ys → AreAlike xs ys
events_alike updates processes xs ys h k = record {
  updates = h.in_order ∙ sym k.in_order;
  evaluations = λ p. h.as_many p ∙ sym (k.as_many p);
}

pub future_alike : (times : List ℕ) (updates : List (ℕ × (ℕ × Vector))) (processes : List (ℕ × ℕ)) (xs ys : List (ℕ × Event))
    → AreToCome times updates processes xs → AreToCome times updates processes ys → IsAlikeFuture xs ys
future_alike times updates processes xs ys h k = record {
  times = h.in_time ∙ sym k.in_time;
  due = λ time. events_alike _ _ _ _ (h.due time) (k.due time);
}

told_alike : (rem : ProcState → Remainder) (a b : Core) (v w : List Vector) (told : KeyContent) → a.controls ≡ b.controls → IsToldOf a v told
    → IsToldOf b w told → Alike (state_of rem v a) (state_of rem w b)
told_alike rem a b v w told same h k = record {
  time = sym h.time ∙ k.time;
  store = sym h.store ∙ k.store;
  processes = ap (λ ps. map (standing rem) ps)
      (sym h.processes ∙ ap (λ (cs : List (List Trigger)). map (λ p. (p.0, triggers_at cs p.1)) told.processes) same ∙ k.processes);
  active = events_alike _ _ _ _ h.active k.active;
  inactive = events_alike _ _ _ _ h.inactive k.inactive;
  nonblocking = events_alike _ _ _ _ h.nonblocking k.nonblocking;
  monitor = sym h.monitor ∙ k.monitor;
  future_inactive = future_alike _ _ _ _ _ h.future_inactive k.future_inactive;
  future_nonblocking = future_alike _ _ _ _ _ h.future_nonblocking k.future_nonblocking;
  finished = sym h.finished ∙ k.finished;
}

pub keys_tell_states : KeysTellStates
keys_tell_states rem a b v w key same (t, of_a, bytes) (u, of_b, bytes') =
    let one : t ≡ u = (key_code_tells t u [] [] (append-nil (key_code t) ∙ sym bytes ∙ bytes' ∙ sym (append-nil (key_code u)))).0 in
    let P : KeyContent → Type 0 = λ x. IsToldOf a v x in
    told_alike rem a b v w u same (subst P one of_a) of_b
