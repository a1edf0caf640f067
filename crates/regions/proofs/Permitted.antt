-- Which entries the rules permit.
use Rattle.std.proofs.Common.{◌≡◌, ℕ, zero, suc, ◌<◌, ◌≤◌, ◌⊎◌, inl, inr, Bool, true, false, not, List, [], ◌∷◌, ◌++◌, map, length, get_or, Option, Some, None, refl, sym, ◌∙◌, ap, subst, arith, eqb, ltb, ◌&&◌}
use Rattle.std.specs.Prelude.{◌↔◌, IfSome}
use Rattle.std.specs.List.{Contains}
use Rattle.std.specs.Option.{option_to_list}
use Rattle.std.proofs.lemmas.Bool.{eqb-true, ltb-false}
use Rattle.std.proofs.lemmas.List.{length-map, get_or-map}
use Rattle.std.proofs.lemmas.List.Elements.{Contains-append_left, Contains-append_right, Contains-append_cases}
use Rattle.logic4.specs.Vector.{Vector}
use Rattle.model.specs.declared.entry.Entry.{Entry}
use Rattle.model.specs.declared.entry.Entry.TheVariants as entries
use Rattle.model.specs.declared.entry.Entry.TheVariants.{Turn, ActivateInactive, ActivateNba, ActivateMonitor, Advance}
use Rattle.model.specs.declared.entry.Refusal.TheVariants.{Finished, NotActive, NotDue, EarlierUpdate}
use Rattle.model.specs.States.{Action, Evaluate, Update, Event, State, is_evaluation}
use Rattle.model.specs.Runs.{action_in, has_any, has_earlier_update, refused_where, turn_refusal, update_refusal, entry_refusal, refusal, least}
use Rattle.model.proofs.RunLaws.{where_none, either_false}
use Rattle.regions.specs.declared.queue.Update as queued
use Rattle.regions.specs.declared.queue.Evaluation.{Evaluation}
use Rattle.regions.specs.Queue.{evaluation_event, update_event}
use Rattle.regions.specs.Find.{update_numbers}
use Rattle.regions.specs.Order.{InOrder}
use Rattle.regions.specs.MadeEvents.{Rises}
use Rattle.regions.specs.Machine.{IsTurnEntry, IsChange, IsDue, AreInOrder}
use Rattle.regions.specs.EvaluationEntries.{turn_entry_of}
use Rattle.regions.proofs.Order.{IsTakenAfter, taken-after, behind, InOrder-rises}
use Rattle.regions.proofs.Refusals.{no_evaluation}

-- a change of the regions is permitted only where nothing is active
resting : (b : Bool) (s : State) (entry : Entry) → has_any s.active ≡ b → IsChange entry → entry_refusal s entry ≡ None → b ≡ false
resting false s entry is change permitted = refl
resting true s (entries.Turn n) is change permitted = absurd change
resting true s (entries.Update n) is change permitted = absurd change
resting true s ActivateInactive is change permitted = let some : entry_refusal s ActivateInactive ≡ Some NotDue = rw is refl in let clash : Some NotDue ≡ None = sym some ∙ permitted in cc
resting true s ActivateNba is change permitted = let some : entry_refusal s ActivateNba ≡ Some NotDue = rw is refl in let clash : Some NotDue ≡ None = sym some ∙ permitted in cc
resting true s ActivateMonitor is change permitted = let some : entry_refusal s ActivateMonitor ≡ Some NotDue = rw is refl in let clash : Some NotDue ≡ None = sym some ∙ permitted in cc
resting true s (Advance time) is change permitted = let some : entry_refusal s (Advance time) ≡ Some NotDue = rw is refl in let clash : Some NotDue ≡ None = sym some ∙ permitted in cc

-- an update that may be taken is active, and none with a smaller number is
permitted_update : (s : State) (n : ℕ) (o : Option Action) → action_in s.active n ≡ o → update_refusal s n o ≡ None
    → (r : ℕ) × (v : Vector) × (action_in s.active n ≡ Some (Update r v)) × (has_earlier_update s.active n ≡ false)
permitted_update s n None is permitted = cc
permitted_update s n (Some (Evaluate p)) is permitted = cc
permitted_update s n (Some (Update r v)) is permitted = (r, v, is, (where_none (has_earlier_update s.active n) EarlierUpdate None permitted).0)

below_here : (b : Bool) (e : Event) (es : List Event) (n m r : ℕ) (v : Vector) → eqb e.0 m ≡ b → action_in (e ∷ es) m ≡ Some (Update r v) → has_earlier_update (e ∷ es) n ≡ false
    → (action_in es m ≡ Some (Update r v) → has_earlier_update es n ≡ false → n ≤ m) → n ≤ m
below_here true e es n m r v same is none rest =
    let here : Some e.1 ≡ Some (Update r v) = rw same at is in
    let act : e.1 ≡ Update r v = cc in
    let parts = either_false (not (is_evaluation e.1) && ltb e.0 n) (has_earlier_update es n) none in
    let not_less : ltb e.0 n ≡ false = ap (λ a. not (is_evaluation a) && ltb e.0 n) (sym act) ∙ parts.0 in
    omega (arith, ltb-false e.0 n not_less, eqb-true e.0 m same)
below_here false e es n m r v same is none rest =
    rest (rw same at is) (either_false (not (is_evaluation e.1) && ltb e.0 n) (has_earlier_update es n) none).1

-- an active update has no smaller number than one before which none is
below : (es : List Event) (n m r : ℕ) (v : Vector) → action_in es m ≡ Some (Update r v) → has_earlier_update es n ≡ false → n ≤ m
below [] n m r v is none = cc
below (e ∷ es) n m r v is none = below_here (eqb e.0 m) e es n m r v refl is none (below es n m r v)

has_active : (es : List Event) (m : ℕ) (a : Action) → action_in es m ≡ Some a → has_any es ≡ true
has_active [] m a is = cc
has_active (e ∷ es) m a is = refl

listed_here : (b c : Bool) (e : Event) (es : List Event) (m r : ℕ) (v : Vector) → eqb e.0 m ≡ b → is_evaluation e.1 ≡ c → action_in (e ∷ es) m ≡ Some (Update r v)
    → least (update_numbers (e ∷ es)) ≡ None → (action_in es m ≡ Some (Update r v) → least (update_numbers es) ≡ None → ⊥) → ⊥
listed_here b false e es m r v same evaluates is none rest =
    let some : (k : ℕ) × (least (update_numbers (e ∷ es)) ≡ Some k) = rw evaluates (_, refl) in
    let clash : Some some.0 ≡ None = sym some.1 ∙ none in cc
listed_here true true e es m r v same evaluates is none rest =
    let here : Some e.1 ≡ Some (Update r v) = rw same at is in
    let act : e.1 ≡ Update r v = cc in
    let clash : true ≡ false = sym evaluates ∙ ap is_evaluation act in cc
listed_here false true e es m r v same evaluates is none rest = rest (rw same at is) (rw evaluates at none)

-- an active update is listed
listed : (es : List Event) (m r : ℕ) (v : Vector) → action_in es m ≡ Some (Update r v) → least (update_numbers es) ≡ None → ⊥
listed [] m r v is none = cc
listed (e ∷ es) m r v is none = listed_here (eqb e.0 m) (is_evaluation e.1) e es m r v refl refl is none (listed es m r v)

-- no change of the regions is permitted beside an update
no_change : (s : State) (n : ℕ) (entry : Entry) → refusal s (entries.Update n) ≡ None → IsChange entry → refusal s entry ≡ None → ⊥
no_change s n entry update change permitted =
    let of_update = permitted_update s n (action_in s.active n) refl (where_none s.finished Finished (update_refusal s n (action_in s.active n)) update).1 in
    let some : has_any s.active ≡ true = has_active s.active n (Update of_update.0 of_update.1) of_update.2 in
    let none : has_any s.active ≡ false = resting (has_any s.active) s entry refl change (where_none s.finished Finished (entry_refusal s entry) permitted).1 in
    let clash : true ≡ false = sym some ∙ none in cc

only_update : (s : State) (n : ℕ) (entry : Entry) → refusal s (entries.Update n) ≡ None → (IsTurnEntry entry → ⊥) → refusal s entry ≡ None → entries.Update n ≡ entry
only_update s n (entries.Turn m) update other permitted = absurd (other (m, refl))
only_update s n (entries.Update m) update other permitted =
    let this = permitted_update s n (action_in s.active n) refl (where_none s.finished Finished (update_refusal s n (action_in s.active n)) update).1 in
    let that = permitted_update s m (action_in s.active m) refl (where_none s.finished Finished (update_refusal s m (action_in s.active m)) permitted).1 in
    let le : n ≤ m = below s.active n m that.0 that.1 that.2 this.3 in
    let ge : m ≤ n = below s.active m n this.0 this.1 this.2 that.3 in
    let same : n ≡ m = omega (arith, le, ge) in
    ap (λ k. entries.Update k) same
only_update s n ActivateInactive update other permitted = absurd (no_change s n ActivateInactive update tt permitted)
only_update s n ActivateNba update other permitted = absurd (no_change s n ActivateNba update tt permitted)
only_update s n ActivateMonitor update other permitted = absurd (no_change s n ActivateMonitor update tt permitted)
only_update s n (Advance time) update other permitted = absurd (no_change s n (Advance time) update tt permitted)

-- the one entry that is no turn and is permitted
abbrev pub IsOther : State → Option Entry → Type 0
IsOther s other = (entry : Entry) → (other ≡ Some entry) ↔ ((IsTurnEntry entry → ⊥) × (refusal s entry ≡ None))

pub other_update : (s : State) (n : ℕ) → refusal s (entries.Update n) ≡ None → IsOther s (Some (entries.Update n))
other_update s n permitted entry = (
  (λ e.
      let same : entries.Update n ≡ entry = cc in (
        (λ t. let clash : entries.Update n ≡ entries.Turn t.0 = same ∙ t.1 in cc),
        subst (λ x. refusal s x ≡ None) same permitted,
      )),
  (λ h. ap (λ x. Some x) (only_update s n entry permitted h.0 h.1)),
)

changes : (s : State) (entry : Entry) → least (update_numbers s.active) ≡ None → (IsTurnEntry entry → ⊥) → refusal s entry ≡ None → IsChange entry
changes s (entries.Turn m) none other permitted = absurd (other (m, refl))
changes s (entries.Update m) none other permitted =
    let that = permitted_update s m (action_in s.active m) refl (where_none s.finished Finished (update_refusal s m (action_in s.active m)) permitted).1 in
    absurd (listed s.active m that.0 that.1 that.2 none)
changes s ActivateInactive none other permitted = tt
changes s ActivateNba none other permitted = tt
changes s ActivateMonitor none other permitted = tt
changes s (Advance time) none other permitted = tt

no_turn : (entry : Entry) → IsChange entry → IsTurnEntry entry → ⊥
no_turn entry change turn = subst IsChange turn.1 change

pub other_due : (s : State) (due : Option Entry) → least (update_numbers s.active) ≡ None → IsDue s due → IsOther s due
other_due s due none is entry = (
  (λ e. let h = (is entry).0 e in (no_turn entry h.0, h.1)),
  (λ h. (is entry).1 (changes s entry none h.0 h.1, h.1)),
)

turn_here : (b : Bool) (e : Evaluation) (es : List Evaluation) (n : ℕ) (a : Action) → eqb e.number n ≡ b → action_in (map evaluation_event (e ∷ es)) n ≡ Some a
    → (action_in (map evaluation_event es) n ≡ Some a → Contains (map turn_entry_of es) (Turn n)) → Contains (map turn_entry_of (e ∷ es)) (Turn n)
turn_here true e es n a same is rest = let here : e.number ≡ n = eqb-true e.number n same in (0, omega arith, ap (λ k. Turn k) here)
turn_here false e es n a same is rest = Contains-append_right (turn_entry_of e ∷ []) (map turn_entry_of es) (Turn n) (rest (rw same at is))

turn_in : (es : List Evaluation) (n : ℕ) (a : Action) → action_in (map evaluation_event es) n ≡ Some a → Contains (map turn_entry_of es) (Turn n)
turn_in [] n a is = cc
turn_in (e ∷ es) n a is = turn_here (eqb e.number n) e es n a refl is (turn_in es n a)

-- a permitted turn takes one of the evaluations
turn_among : (us : List queued.Update) (es : List Evaluation) (n : ℕ) (o : Option Action) → action_in (map evaluation_event es) n ≡ o
    → turn_refusal (action_in (map update_event us ++ map evaluation_event es) n) ≡ None → Contains (map turn_entry_of es) (Turn n)
turn_among us es n None is permitted =
    let refused = no_evaluation us (map evaluation_event es) n is in let clash : Some NotActive ≡ None = sym refused ∙ permitted in cc
turn_among us es n (Some a) is permitted = turn_in es n a is

module _ (P : Action → Type 0) (s : State) (us : List queued.Update) (es : List Evaluation) (high : ℕ) (running : s.finished ≡ false)
    (active : s.active ≡ map update_event us ++ map evaluation_event es) (order : InOrder P 0 (map update_event us ++ map evaluation_event es) high) where
  permitted_at : (k : ℕ) (d : Evaluation) → k < length es → turn_refusal (action_in s.active (get_or es k d).number) ≡ None
  permitted_at k d lt =
      let below' : k < length (map evaluation_event es) = rw length-map lt in
      let is : get_or (map evaluation_event es) k (evaluation_event d) ≡ evaluation_event (get_or es k d) = get_or-map evaluation_event es k d (evaluation_event d) lt in
      let there : IsTakenAfter P 0 (map update_event us) (map evaluation_event es) k (evaluation_event (get_or es k d)) =
      rw is at (taken-after P 0 (map update_event us) (map evaluation_event es) high k (evaluation_event d) below' order) in
      ap (λ fs. turn_refusal (action_in fs (get_or es k d).number)) active ∙ ap turn_refusal there.action

  running_turn : (n : ℕ) → turn_refusal (action_in s.active n) ≡ None → refusal s (Turn n) ≡ None
  running_turn n h = ap (λ b. refused_where b Finished (turn_refusal (action_in s.active n))) running ∙ h

  turn_permitted : (entry : Entry) → Contains (map turn_entry_of es) entry → refusal s entry ≡ None
  turn_permitted entry h =
      let d : Evaluation = record { number = 0; process = 0 } in
      let lt : h.0 < length es = rw length-map at h.1 in
      let is : turn_entry_of (get_or es h.0 d) ≡ entry = sym (get_or-map turn_entry_of es h.0 d entry lt) ∙ h.2 in
      subst (λ x. refusal s x ≡ None) is (running_turn (get_or es h.0 d).number (permitted_at h.0 d lt))

  other_of : (other : Option Entry) (entry : Entry) → Contains (option_to_list other) entry → other ≡ Some entry
  other_of None entry h = absurd (omega (arith, h.1))
  other_of (Some x) entry h = ap (λ y. Some y) (first (h.0) (h.1) (h.2))
    where
      first : (k : ℕ) → k < 1 → get_or (x ∷ []) k entry ≡ entry → x ≡ entry
      first zero lt is = is
      first (suc k) lt is = absurd (omega (arith, lt))

  among_other : (other : Option Entry) (entry : Entry) → other ≡ Some entry → Contains (option_to_list other) entry
  among_other None entry is = cc
  among_other (Some x) entry is = let same : x ≡ entry = cc in (0, omega arith, same)

  among_last : (other : Option Entry) (entry : Entry) → IsOther s other → (IsTurnEntry entry → ⊥) → refusal s entry ≡ None → Contains (map turn_entry_of es ++ option_to_list other) entry
  among_last other entry only is_none permitted =
      Contains-append_right (map turn_entry_of es) (option_to_list other) entry (among_other other entry ((only entry).1 (is_none, permitted)))

  among : (other : Option Entry) (entry : Entry) → IsOther s other → refusal s entry ≡ None → Contains (map turn_entry_of es ++ option_to_list other) entry
  among other (entries.Turn n) only permitted =
      let turn : turn_refusal (action_in s.active n) ≡ None = (where_none s.finished Finished (turn_refusal (action_in s.active n)) permitted).1 in
      let turn' : turn_refusal (action_in (map update_event us ++ map evaluation_event es) n) ≡ None = ap (λ fs. turn_refusal (action_in fs n)) (sym active) ∙ turn in
      Contains-append_left (map turn_entry_of es) (option_to_list other) (Turn n) (turn_among us es n (action_in (map evaluation_event es) n) refl turn')
  among other (entries.Update n) only permitted = among_last other (entries.Update n) only (λ t. cc) permitted
  among other ActivateInactive only permitted = among_last other ActivateInactive only (λ t. cc) permitted
  among other ActivateNba only permitted = among_last other ActivateNba only (λ t. cc) permitted
  among other ActivateMonitor only permitted = among_last other ActivateMonitor only (λ t. cc) permitted
  among other (Advance time) only permitted = among_last other (Advance time) only (λ t. cc) permitted

  -- the entries that are permitted
  pub all_permitted : (other : Option Entry) (items : List Entry) → IsOther s other → items ≡ map turn_entry_of es ++ option_to_list other
      → (entry : Entry) → Contains items entry ↔ (refusal s entry ≡ None)
  all_permitted other items only are entry = (
    (λ h. from (Contains-append_cases (map turn_entry_of es) (option_to_list other) entry (subst (λ xs. Contains xs entry) are h))),
    (λ permitted. subst (λ xs. Contains xs entry) (sym are) (among other entry only permitted)),
  )
    where
      from : Contains (map turn_entry_of es) entry ⊎ Contains (option_to_list other) entry → refusal s entry ≡ None
      from (inl h) = turn_permitted entry h
      from (inr h) = ((only entry).0 (other_of other entry h)).1

numbers_of : (es : List Evaluation) → map (λ e. e.0) (map evaluation_event es) ≡ map (λ e. e.number) es
numbers_of [] = refl
numbers_of (e ∷ es) = ap (λ ns. e.number ∷ ns) (numbers_of es)

turns_of : (es : List Evaluation) → map turn_entry_of es ≡ map (λ n. Turn n) (map (λ e. e.number) es)
turns_of [] = refl
turns_of (e ∷ es) = ap (λ xs. turn_entry_of e ∷ xs) (turns_of es)

other_no_turn : (s : State) (other : Option Entry) → IsOther s other → IfSome other (λ entry. IsTurnEntry entry → ⊥)
other_no_turn s None only = tt
other_no_turn s (Some entry) only = ((only entry).0 refl).0

-- they stand in order
pub in_order : (P : Action → Type 0) (s : State) (us : List queued.Update) (es : List Evaluation) (high : ℕ) (other : Option Entry) (items : List Entry)
    → InOrder P 0 (map update_event us ++ map evaluation_event es) high → IsOther s other → items ≡ map turn_entry_of es ++ option_to_list other → AreInOrder items
in_order P s us es high other items order only are = record {
  numbers = map (λ e. e.number) es;
  last = other;
  are = are ∙ ap (λ xs. xs ++ option_to_list other) (turns_of es);
  rise = subst (Rises 0) (numbers_of es) (InOrder-rises P 0 (map evaluation_event es) high (behind P 0 (map update_event us) (map evaluation_event es) high order));
  no_turn = other_no_turn s other only;
}
