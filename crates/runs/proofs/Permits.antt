-- Which entries may be next: active events where there are any, and else a change of the regions.
use Rattle.std.proofs.Common.{◌≡◌, ℕ, zero, suc, ◌<◌, ◌≤◌, Bool, true, false, not, ◌&&◌, ◌||◌, List, [], ◌∷◌, ◌++◌, map, Option, Some, None, refl, sym, ◌∙◌, ap, arith, eqb, ltb, eq-eqb}
use Rattle.std.proofs.lemmas.Bool.{not-false, and_parts, ltb-true, ltb-false, le-ltb, eqb-true}
use Rattle.model.specs.declared.entry.Entry.{Entry}
use Rattle.model.specs.declared.entry.Entry.TheVariants.{Turn, Update, ActivateInactive, ActivateNba, ActivateMonitor, Advance}
use Rattle.model.specs.declared.entry.Refusal.TheVariants.{Finished, EarlierUpdate, NotActive, NotDue, WrongTime, PastLimit}
use Rattle.model.specs.declared.end.Limits.{Limits}
use Rattle.model.specs.States.{Action, Evaluate, Event, State, is_evaluation}
use Rattle.model.specs.Runs.{action_in, has_any, has_earlier_update, has_earlier, has_future, Inactive, Nonblocking, Monitor, Future, refused_where, turn_refusal, update_refusal, time_refusal, entry_refusal, refusal, least, least_time, last_time}
use Rattle.model.proofs.RunLaws.{where_none, either_false}
use Rattle.runs.specs.Halting.{MayBeNext}

-- an event is found by its number, whatever stands before it
found_behind : (b : Bool) (e : Event) (es : List Event) (m : ℕ) (a : Action) → eqb e.0 m ≡ b → action_in es m ≡ Some a
    → (c : Action) × (action_in (e ∷ es) m ≡ Some c)
found_behind true e es m a is there = (e.1, rw is refl)
found_behind false e es m a is there = (a, rw is there)

-- an event with a smaller number is there
abbrev IsEarlier : List Event → ℕ → Type 0
IsEarlier es n = (m : ℕ) × (c : Action) × (m < n) × (action_in es m ≡ Some c)

earlier_here : (b : Bool) (e : Event) (es : List Event) (n : ℕ) → (not (is_evaluation e.1) && ltb e.0 n) ≡ b → has_earlier_update (e ∷ es) n ≡ true
    → (has_earlier_update es n ≡ true → IsEarlier es n) → IsEarlier (e ∷ es) n
earlier_here true e es n is some rest =
    let less : e.0 < n = ltb-true e.0 n (and_parts (not (is_evaluation e.1)) (ltb e.0 n) is).1 in
    (e.0, e.1, less, rw (eq-eqb e.0 e.0 refl) refl)
earlier_here false e es n is some rest =
    let (m, a, less, there) = rest (rw is at some) in
    let (c, found) = found_behind (eqb e.0 m) e es m a refl there in
    (m, c, less, found)

earlier_there : (es : List Event) (n : ℕ) → has_earlier_update es n ≡ true → IsEarlier es n
earlier_there [] n some = cc
earlier_there (e ∷ es) n some = earlier_here (not (is_evaluation e.1) && ltb e.0 n) e es n refl some (earlier_there es n)

-- some entry may be next
abbrev pub SomeNext : Limits → State → Type 0
SomeNext limits s = (entry : Entry) × MayBeNext limits s entry

-- a turn of an active evaluation may be next
pub turn_next : (limits : Limits) (s : State) (n p : ℕ) → s.finished ≡ false → action_in s.active n ≡ Some (Evaluate p) → SomeNext limits s
turn_next limits s n p going there = (
  Turn n,
  (ap (λ b. refused_where b Finished (turn_refusal (action_in s.active n))) going ∙ ap turn_refusal there, tt),
)

update_next : (limits : Limits) (s : State) (n : ℕ) (action : Action) (b : Bool) → s.finished ≡ false → action_in s.active n ≡ Some action → is_evaluation action ≡ false
    → has_earlier_update s.active n ≡ b → (IsEarlier s.active n → SomeNext limits s) → SomeNext limits s
update_next limits s n (Evaluate p) b going there other is rest = cc
update_next limits s n (Action.Update r v) true going there other is rest = rest (earlier_there s.active n is)
update_next limits s n (Action.Update r v) false going there other is rest = (
  Update n,
  (
    ap (λ x. refused_where x Finished (update_refusal s n (action_in s.active n))) going ∙ (ap (update_refusal s n) there ∙ ap (λ x. refused_where x EarlierUpdate None) is),
    tt,
  ),
)

-- of the active events one may be taken
active_below : (k : ℕ) (limits : Limits) (s : State) (n : ℕ) (action : Action) → n < k → s.finished ≡ false → action_in s.active n ≡ Some action → SomeNext limits s
active_below zero limits s n action less going there = absurd (omega (arith, less))
active_below (suc k) limits s n (Evaluate p) less going there = turn_next limits s n p going there
active_below (suc k) limits s n (Action.Update r v) less going there =
    update_next limits s n (Action.Update r v) (has_earlier_update s.active n) going there refl refl
    (λ earlier. active_below k limits s earlier.0 earlier.1 (omega (arith, less, earlier.2)) going earlier.3)

first_there : (es : List Event) → has_any es ≡ true → (n : ℕ) × (action : Action) × (action_in es n ≡ Some action)
first_there [] some = cc
first_there (e ∷ es) some = (e.0, e.1, rw (eq-eqb e.0 e.0 refl) refl)

pub active_next : (limits : Limits) (s : State) → s.finished ≡ false → has_any s.active ≡ true → SomeNext limits s
active_next limits s going some =
    let (n, action, there) = first_there s.active some in
    active_below (suc n) limits s n action (omega arith) going there

none_there : (es : List Event) (n : ℕ) → has_any es ≡ false → action_in es n ≡ None
none_there [] n none = refl
none_there (e ∷ es) n none = cc

-- each region is empty but the future
pub record OnlyFuture (s : State) : Type 0 where
  pub active : has_any s.active ≡ false
  pub inactive : has_any s.inactive ≡ false
  pub nonblocking : has_any s.nonblocking ≡ false
  pub monitor : has_any s.monitor ≡ false

pub only_future : (s : State) → has_earlier Future s ≡ false → OnlyFuture s
only_future s none =
    let all = either_false (has_any s.active || has_any s.inactive || has_any s.nonblocking) (has_any s.monitor) none in
    let three = either_false (has_any s.active || has_any s.inactive) (has_any s.nonblocking) all.0 in
    let two = either_false (has_any s.active) (has_any s.inactive) three.0 in
    record { active = two.0; inactive = two.1; nonblocking = three.1; monitor = all.1 }

-- a region with no event isn't emptied
not_emptied : (before own : Bool) → own ≡ false → refused_where (before || not own) NotDue None ≡ None → ⊥
not_emptied before true none permitted = cc
not_emptied before false none permitted =
    let (left, right) = either_false before true (where_none (before || true) NotDue None permitted).0 in
    cc

timed : (time : ℕ) (o : Option ℕ) → time_refusal time o ≡ None → (o ≡ Some time) × (time ≤ last_time)
timed time None permitted = cc
timed time (Some due) permitted =
    let (same, rest) = where_none (not (eqb due time)) WrongTime (refused_where (ltb last_time time) PastLimit None) permitted in
    let (low, done) = where_none (ltb last_time time) PastLimit None rest in
    (ap (λ t. Some t) (eqb-true due time (not-false (eqb due time) same)), ltb-false last_time time low)

-- where only the future has events, only the time may advance, to the least of their times
abbrev pub IsAdvance : State → Entry → Type 0
IsAdvance s entry = (time : ℕ) × (entry ≡ Advance time) × (least_time s ≡ Some time)

only_advance : (s : State) (entry : Entry) → OnlyFuture s → entry_refusal s entry ≡ None → IsAdvance s entry
only_advance s (Turn n) h permitted =
    let clash : Some NotActive ≡ None = sym (ap turn_refusal (none_there s.active n h.active)) ∙ permitted in cc
only_advance s (Update n) h permitted =
    let clash : Some NotActive ≡ None = sym (ap (update_refusal s n) (none_there s.active n h.active)) ∙ permitted in cc
only_advance s ActivateInactive h permitted = absurd (not_emptied (has_earlier Inactive s) (has_any s.inactive) h.inactive permitted)
only_advance s ActivateNba h permitted = absurd (not_emptied (has_earlier Nonblocking s) (has_any s.nonblocking) h.nonblocking permitted)
only_advance s ActivateMonitor h permitted = absurd (not_emptied (has_earlier Monitor s) (has_any s.monitor) h.monitor permitted)
only_advance s (Advance time) h permitted =
    (time, refl, (timed time (least_time s) (where_none (has_earlier Future s) NotDue (time_refusal time (least_time s)) permitted).1).0)

pub permitted_advance : (s : State) (entry : Entry) → has_earlier Future s ≡ false → refusal s entry ≡ None → IsAdvance s entry
permitted_advance s entry none permitted =
    only_advance s entry (only_future s none) (where_none s.finished Finished (entry_refusal s entry) permitted).1

-- the time advances only where nothing else has events
pub advance_rests : (s : State) (time : ℕ) → refusal s (Advance time) ≡ None → has_earlier Future s ≡ false
advance_rests s time permitted =
    (where_none (has_earlier Future s) NotDue (time_refusal time (least_time s)) (where_none s.finished Finished (entry_refusal s (Advance time)) permitted).1).0

none_future : (xs ys : List (ℕ × Event)) → (has_any xs || has_any ys) ≡ false → least (map (λ f. f.0) (xs ++ ys)) ≡ None
none_future (x ∷ xs) ys none = cc
none_future [] (y ∷ ys) none = cc
none_future [] [] none = refl

pub no_time : (s : State) → has_future s ≡ false → least_time s ≡ None
no_time s none = none_future s.future_inactive s.future_nonblocking none

none_least : (xs ys : List (ℕ × Event)) → least (map (λ f. f.0) (xs ++ ys)) ≡ None → (has_any xs || has_any ys) ≡ false
none_least (x ∷ xs) ys none = cc
none_least [] (y ∷ ys) none = cc
none_least [] [] none = refl

pub no_future : (s : State) → least_time s ≡ None → has_future s ≡ false
no_future s none = none_least s.future_inactive s.future_nonblocking none

-- the time may advance to the least future time, where nothing else has events
pub advance_next : (s : State) (time : ℕ) → s.finished ≡ false → has_earlier Future s ≡ false → least_time s ≡ Some time → time ≤ last_time
    → refusal s (Advance time) ≡ None
advance_next s time going none least low =
    ap (λ b. refused_where b Finished (entry_refusal s (Advance time))) going
    ∙ (ap (λ b. refused_where b NotDue (time_refusal time (least_time s))) none
    ∙ (ap (time_refusal time) least
    ∙ (ap (λ b. refused_where (not b) WrongTime (refused_where (ltb last_time time) PastLimit None)) (eq-eqb time time refl)
    ∙ ap (λ b. refused_where b PastLimit None) (le-ltb last_time time low))))
