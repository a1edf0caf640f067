-- What is told of the events of a region by classes, and states of which one thing is told so.
use Rattle.std.proofs.Common.{◌≡◌, ℕ, List, [], ◌++◌, map, sym, ◌∙◌, ap, subst}
use Rattle.std.specs.List.Sorted.{IsPermutation, IsNonDecreasingBy}
use Rattle.std.proofs.lemmas.Simd.{map-map}
use Rattle.logic4.specs.Vector.{Vector}
use Rattle.model.specs.Turns.{Remainder}
use Rattle.model.specs.States.{Event}
use Rattle.model.specs.Design.{Trigger}
use Rattle.orders.specs.Alike as alike
use Rattle.loose.specs.Loose.{AreAlikeIn, IsAlikeFutureIn, AlikeIn}
use Rattle.loose.proofs.ClassLists.{alike_lists_in}
use Rattle.loose.proofs.ClassFutures.{alike_futures_in}
use Rattle.design.specs.declared.code.ProcState.{ProcState}
use Rattle.regions.specs.declared.queue.Update.{Update}
use Rattle.regions.specs.declared.queue.Evaluation.{Evaluation}
use Rattle.regions.specs.declared.future.Due.{Due}
use Rattle.regions.specs.Queue.{Core, state_of, standing, evaluation_event, update_event}
use Rattle.regions.specs.Future.{due_event}
use Rattle.regions.specs.ProcessWaking.{triggers_at}
use Rattle.statekeys.specs.Keys.{KeyContent, at_time}
use Rattle.statekeys.specs.KeyParts.{unnumbered_update, due_assignment}
use Rattle.statekeys.specs.KeyLaws.{ClassKeysTellStates}
use Rattle.statekeys.specs.ClassKeys.{IsGrouped, AreEventsIn, AreUpdatesToCome, IsToldInClasses}
use Rattle.statekeys.proofs.Events.{processes_of, active_told, nonblocking_told, future_nonblocking_told}
use Rattle.statekeys.proofs.KeyCodes.{key_code_tells}
use Rattle.statekeys.proofs.Codes.{list_code_tells}
use Rattle.statekeys.proofs.Numbers.{nat_code_tells}
use Rattle.statekeys.proofs.Alikeness.{events_alike, future_alike}

pub active_told_in : (class : ℕ → ℕ) (us : List Update) (gs : List (ℕ × Vector)) (es : List Evaluation) (ps : List ℕ) (events : List Event)
    → map update_event us ++ map evaluation_event es ≡ events → IsGrouped class (map unnumbered_update us) gs
    → IsPermutation (processes_of es) ps → AreEventsIn class gs ps events
active_told_in class us gs es ps events is grouped h =
    let told = active_told us es ps events is h in
    let P : List (ℕ × Vector) → Type 0 = λ ws. IsGrouped class ws gs in
    record { grouped = subst P (sym told.in_order) grouped; as_many = told.as_many }

pub nonblocking_told_in : (class : ℕ → ℕ) (us : List Update) (gs : List (ℕ × Vector)) (events : List Event)
    → map update_event us ≡ events → IsGrouped class (map unnumbered_update us) gs → AreEventsIn class gs [] events
nonblocking_told_in class us gs events is grouped =
    let told = nonblocking_told us events is in
    let P : List (ℕ × Vector) → Type 0 = λ ws. IsGrouped class ws gs in
    record { grouped = subst P (sym told.in_order) grouped; as_many = told.as_many }

pub future_told_in : (class : ℕ → ℕ) (ds : List (Due Update)) (gs : List (ℕ × (ℕ × Vector))) (future : List (ℕ × Event))
    → map (due_event update_event) ds ≡ future → ((time : ℕ) → IsGrouped class (at_time time (map due_assignment ds)) (at_time time gs))
    → IsNonDecreasingBy (λ u. u.0) gs → AreUpdatesToCome class (map (λ d. d.time) ds) gs future
future_told_in class ds gs future is grouped rising =
    let told = future_nonblocking_told ds future is in
    record {
      in_time = told.in_time ∙ map-map (λ (u : ℕ × (ℕ × Vector)). u.0) due_assignment ds;
      due = λ time.
          let P : List (ℕ × Vector) → Type 0 = λ ws. IsGrouped class ws (at_time time gs) in
          record { grouped = subst P (sym (told.due time).in_order) (grouped time); as_many = (told.due time).as_many };
      rising = rising;
    }

events_alike_in : (class : ℕ → ℕ) (updates : List (ℕ × Vector)) (processes : List ℕ) (xs ys : List Event) → AreEventsIn class updates processes xs
    → AreEventsIn class updates processes ys → AreAlikeIn class xs ys
events_alike_in class updates processes xs ys h k = record {
  updates = λ c. sym (h.grouped.in_order c) ∙ k.grouped.in_order c;
  evaluations = λ p. h.as_many p ∙ sym (k.as_many p);
}

future_alike_in : (class : ℕ → ℕ) (times : List ℕ) (updates : List (ℕ × (ℕ × Vector))) (xs ys : List (ℕ × Event))
    → AreUpdatesToCome class times updates xs → AreUpdatesToCome class times updates ys → IsAlikeFutureIn class xs ys
future_alike_in class times updates xs ys h k = record {
  times = h.in_time ∙ sym k.in_time;
  due = λ time. events_alike_in class _ _ _ _ (h.due time) (k.due time);
}

told_alike_in : (class : ℕ → ℕ) (rem : ProcState → Remainder) (a b : Core) (v w : List Vector) (told : KeyContent) (times : List ℕ)
    → a.controls ≡ b.controls → IsToldInClasses class a v told times → IsToldInClasses class b w told times
    → AlikeIn class (state_of rem v a) (state_of rem w b)
told_alike_in class rem a b v w told times same h k = record {
  time = sym h.time ∙ k.time;
  store = sym h.store ∙ k.store;
  processes = ap (λ ps. map (standing rem) ps)
      (sym h.processes ∙ ap (λ (cs : List (List Trigger)). map (λ p. (p.0, triggers_at cs p.1)) told.processes) same ∙ k.processes);
  active = events_alike_in class _ _ _ _ h.active k.active;
  inactive = alike_lists_in class _ _ (events_alike _ _ _ _ h.inactive k.inactive);
  nonblocking = events_alike_in class _ _ _ _ h.nonblocking k.nonblocking;
  monitor = sym h.monitor ∙ k.monitor;
  future_inactive = alike_futures_in class _ _ (future_alike _ _ _ _ _ h.future_inactive k.future_inactive);
  future_nonblocking = future_alike_in class _ _ _ _ h.future_nonblocking k.future_nonblocking;
  finished = sym h.finished ∙ k.finished;
}

pub class_keys_tell_states : ClassKeysTellStates
class_keys_tell_states class rem a b v w key same h k =
    let one = key_code_tells h.told k.told _ _ (sym h.bytes ∙ k.bytes) in
    let P : KeyContent → Type 0 = λ x. IsToldInClasses class a v x h.update_times in
    let Q : List ℕ → Type 0 = λ ts. IsToldInClasses class a v k.told ts in
    let times = (list_code_tells _ nat_code_tells h.update_times k.update_times [] [] (ap (λ (bs : List ℕ). bs ++ []) one.1)).0 in
    told_alike_in class rem a b v w k.told k.update_times same (subst Q times (subst P one.0 h.of_state)) k.of_state
