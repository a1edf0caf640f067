-- The loose steps of actors by their deeds, and such a step after another.
use Rattle.std.proofs.Common.{◌≡◌, ℕ, zero, suc, ◌+◌, ◌≤◌, ◌<◌, Bool, true, false, not, ◌&&◌, ◌||◌, List, [], ◌∷◌, ◌++◌, map, length, Option, Some, None, refl, sym, ap, subst, ◌∙◌, if◌then◌else◌, ◌==◌, nat_lt, arith, eqb-true}
use Rattle.std.specs.Prelude.{slice_set, cond, option_map}
use Rattle.std.specs.List.{enumerate_from}
use Rattle.std.proofs.lemmas.Bool.Decides.{leb_tells}
use Rattle.logic4.specs.Vector.{Vector}
use Rattle.model.specs.declared.entry.Refusal.{Refusal}
use Rattle.model.specs.declared.entry.Refusal.TheVariants.{Finished, EarlierUpdate}
use Rattle.model.specs.declared.entry.Entry.{Entry}
use Rattle.model.specs.declared.entry.Entry.TheVariants.{Update, ActivateInactive, ActivateNba, ActivateMonitor, Advance}
use Rattle.model.specs.Design.{Design, Trigger}
use Rattle.model.specs.Expressions.{value_of}
use Rattle.model.specs.Turns.{Turn, contains, short_turn}
use Rattle.model.specs.States.{Action, Evaluate, Event, Continuation, State, without, triggers_of}
use Rattle.model.specs.Runs.{Effect, action_in, has_any, remainder_of, turn_of, turn_effect, update_effect, action_effect, effect, refused_where, turn_refusal, unless_refused, changes_of}
use Rattle.model.proofs.RunLaws.{unless_some, where_none}
use Rattle.orders.specs.Alike.{EventsRise, IsInOrder}
use Rattle.orders.specs.Apart.{AgreeOn, continuation_after}
use Rattle.orders.proofs.EventLists.{rises-numbered}
use Rattle.orders.proofs.TurnFrame.{turn_has_frame}
use Rattle.orders.proofs.Stores.{length_all}
use Rattle.orders.proofs.Commuting.{still_there}
use Rattle.orders.proofs.AlikeSteps.{continuation_of}
use Rattle.loose.specs.declared.transition.LooseTransition.TheVariants.{Process, FirstOf}
use Rattle.loose.specs.Loose.{loose_transition_of_action, updates_class, has_earlier_of_class, loose_update_refusal, loose_entry_refusal, loose_refusal, loose_step}
use Rattle.footprints.specs.Footprints.{RegisterChange, Footprint, changes_made, changed_registers, woken_by_changes, awaited_by_all, concerned, assigned, turn_footprint, update_footprint, action_footprint, footprint}
use Rattle.footprints.specs.FootprintLaws.{IsStepWith, HasSameOutput}
use Rattle.footprints.proofs.ValueChanges.{neither, written_values, values_made, unchanged}
use Rattle.footprints.proofs.Waking.{awake, woken_from, wakes_process, evaluations_made, same_woken}
use Rattle.footprints.proofs.Deeds.{Deed, Done, placed, changes_by, turn_deed, update_deed, turned_is_done, updated_is_done}
use Rattle.footprints.proofs.Exchange.{Differ, Leaves, changes_stay, wakes_stay, from_at}
use Rattle.footprints.proofs.EndedTriggers.{own_of, placed_other, same_awaited, triggers_kept}

pub some_same : {A : Type 0} → (a b : A) → Some a ≡ Some b → a ≡ b
some_same a b h = cc

-- The step of an actor, by cases: the turn of a process that is active, or the first active update of a class, with its deed, what
-- comes of it, and its footprint.
abbrev pub Acts : (ℕ → ℕ) → Design → State → Entry → Deed → Effect → Footprint → Type 0
Acts class design s (Entry.Turn n) d x f =
    (p : ℕ) × (t : Turn) × (action_in s.active n ≡ Some (Evaluate p)) × (turn_of design s p ≡ Some t) × (d ≡ turn_deed n p t)
    × (x ≡ turn_effect s n p t) × (f ≡ turn_footprint class s p t)
Acts class design s (Update n) d x f =
    (r : ℕ) × (v : Vector) × (action_in s.active n ≡ Some (Action.Update r v)) × (has_earlier_of_class class (class r) s.active n ≡ false)
    × (d ≡ update_deed n r v) × (x ≡ update_effect s n r v) × (f ≡ update_footprint class s r v)
Acts class design s ActivateInactive d x f = ⊥
Acts class design s ActivateNba d x f = ⊥
Acts class design s ActivateMonitor d x f = ⊥
Acts class design s (Advance time) d x f = ⊥

-- from a step to its cases

turn_found : (class : ℕ → ℕ) (design : Design) (s : State) (n p : ℕ) (x : Effect) (f : Footprint) (o : Option Turn) → action_in s.active n ≡ Some (Evaluate p) → turn_of design s p ≡ o
    → option_map (turn_effect s n p) o ≡ Some x → option_map (turn_footprint class s p) o ≡ Some f → (d : Deed) × Acts class design s (Entry.Turn n) d x f
turn_found class design s n p x f None is found h g = cc
turn_found class design s n p x f (Some t) is found h g =
    (turn_deed n p t, (p, t, is, found, refl, sym (some_same (turn_effect s n p t) x h), sym (some_same (turn_footprint class s p t) f g)))

turn_acts : (class : ℕ → ℕ) (design : Design) (s : State) (n : ℕ) (x : Effect) (f : Footprint) (o : Option Action) → action_in s.active n ≡ o → turn_refusal o ≡ None → action_effect design s n o ≡ Some x
    → action_footprint class design s o ≡ Some f → (d : Deed) × Acts class design s (Entry.Turn n) d x f
turn_acts class design s n x f None is none h g = cc
turn_acts class design s n x f (Some (Evaluate p)) is none h g = turn_found class design s n p x f (turn_of design s p) is refl h g
turn_acts class design s n x f (Some (Action.Update r v)) is none h g = cc

update_acts : (class : ℕ → ℕ) (design : Design) (s : State) (n : ℕ) (x : Effect) (f : Footprint) (o : Option Action) → action_in s.active n ≡ o → loose_update_refusal class s n o ≡ None → action_effect design s n o ≡ Some x
    → action_footprint class design s o ≡ Some f → (d : Deed) × Acts class design s (Update n) d x f
update_acts class design s n x f None is none h g = cc
update_acts class design s n x f (Some (Evaluate p)) is none h g = cc
update_acts class design s n x f (Some (Action.Update r v)) is none h g =
    let first : has_earlier_of_class class (class r) s.active n ≡ false = (where_none (has_earlier_of_class class (class r) s.active n) EarlierUpdate None none).0 in
    (update_deed n r v, (r, v, is, first, refl, sym (some_same (update_effect s n r v) x h), sym (some_same (update_footprint class s r v) f g)))

cases_of : (class : ℕ → ℕ) (design : Design) (s : State) (entry : Entry) (x : Effect) (f : Footprint) → loose_entry_refusal class s entry ≡ None → effect design s entry ≡ Some x → footprint class design s entry ≡ Some f
    → (d : Deed) × Acts class design s entry d x f
cases_of class design s (Entry.Turn n) x f none h g = turn_acts class design s n x f (action_in s.active n) refl none h g
cases_of class design s (Update n) x f none h g = update_acts class design s n x f (action_in s.active n) refl none h g
cases_of class design s ActivateInactive x f none h g = cc
cases_of class design s ActivateNba x f none h g = cc
cases_of class design s ActivateMonitor x f none h g = cc
cases_of class design s (Advance time) x f none h g = cc

-- what is permitted loosely
pub loose_parts : (class : ℕ → ℕ) (design : Design) (s : State) (entry : Entry) (x : Effect) → loose_step class design s entry ≡ Some x
    → (s.finished ≡ false) × (loose_entry_refusal class s entry ≡ None) × (effect design s entry ≡ Some x)
loose_parts class design s entry x h =
    let parts : (loose_refusal class s entry ≡ None) × (effect design s entry ≡ Some x) = unless_some (loose_refusal class s entry) (effect design s entry) x h in
    let due : (s.finished ≡ false) × (loose_entry_refusal class s entry ≡ None) = where_none s.finished Finished (loose_entry_refusal class s entry) parts.0 in
    (due.0, due.1, parts.1)

pub step_acts : (class : ℕ → ℕ) (design : Design) (s : State) (entry : Entry) (x : Effect) (f : Footprint) → IsStepWith class design s entry f x
    → (s.finished ≡ false) × ((d : Deed) × Acts class design s entry d x f)
step_acts class design s entry x f (step, print) =
    let (going, none, made) = loose_parts class design s entry x step in
    (going, cases_of class design s entry x f none made print)

-- and back

unfinished : (finished : Bool) (o : Option Refusal) (x : Option Effect) (e : Effect) → finished ≡ false → unless_refused o x ≡ Some e → unless_refused (refused_where finished Finished o) x ≡ Some e
unfinished finished o x e is h = rw is h

pub acts_step : (class : ℕ → ℕ) (design : Design) (s : State) (entry : Entry) (d : Deed) (x : Effect) (f : Footprint) → s.finished ≡ false → Acts class design s entry d x f → IsStepWith class design s entry f x
acts_step class design s (Entry.Turn n) d x f going (p, t, is, found, same_d, same_x, same_f) =
    let made : unless_refused (turn_refusal (action_in s.active n)) (action_effect design s n (action_in s.active n)) ≡ Some x =
    ap (λ o. unless_refused (turn_refusal o) (action_effect design s n o)) is ∙ ap (option_map (turn_effect s n p)) found ∙ ap Some (sym same_x) in (
      unfinished s.finished (turn_refusal (action_in s.active n)) (action_effect design s n (action_in s.active n)) x going made,
      ap (action_footprint class design s) is ∙ ap (option_map (turn_footprint class s p)) found ∙ ap Some (sym same_f),
    )
acts_step class design s (Update n) d x f going (r, v, is, first, same_d, same_x, same_f) =
    let made : unless_refused (loose_update_refusal class s n (action_in s.active n)) (action_effect design s n (action_in s.active n)) ≡ Some x =
    ap (λ o. unless_refused (loose_update_refusal class s n o) (action_effect design s n o)) is
    ∙ ap (λ b. unless_refused (refused_where b EarlierUpdate None) (Some (update_effect s n r v))) first ∙ ap Some (sym same_x) in (
      unfinished s.finished (loose_update_refusal class s n (action_in s.active n)) (action_effect design s n (action_in s.active n)) x going made,
      ap (action_footprint class design s) is ∙ ap Some (sym same_f),
    )
acts_step class design s ActivateInactive d x f going acts = absurd acts
acts_step class design s ActivateNba d x f going acts = absurd acts
acts_step class design s ActivateMonitor d x f going acts = absurd acts
acts_step class design s (Advance time) d x f going acts = absurd acts

-- a step does its deed
pub acts_done : (class : ℕ → ℕ) (design : Design) (s : State) (entry : Entry) (d : Deed) (x : Effect) (f : Footprint) → IsInOrder s → s.finished ≡ false → Acts class design s entry d x f → Done s d x.state
acts_done class design s (Entry.Turn n) d x f order going (p, t, is, found, same_d, same_x, same_f) = rw (same_d, same_x) (turned_is_done s n p t order)
acts_done class design s (Update n) d x f order going (r, v, is, first, same_d, same_x, same_f) = rw (same_d, same_x) (updated_is_done s n r v order going)
acts_done class design s ActivateInactive d x f order going acts = absurd acts
acts_done class design s ActivateNba d x f order going acts = absurd acts
acts_done class design s ActivateMonitor d x f order going acts = absurd acts
acts_done class design s (Advance time) d x f order going acts = absurd acts

-- what a footprint says of the process of its deed
abbrev pub OwnIs : Footprint → Option (ℕ × Continuation) → Type 0
OwnIs f None = Unit {0}
OwnIs f (Some own) = (f.owner ≡ Process own.0) × (f.awaits ≡ own.1.triggers)

-- what a footprint says of its deed, and of what comes of it
abbrev pub Matches : (ℕ → ℕ) → State → Deed → Effect → Footprint → Type 0
Matches class s d x f =
    record {
      active : (a : Action) × (action_in s.active d.number ≡ Some a) × (loose_transition_of_action class (Some a) ≡ Some f.owner);
      writes : f.writes ≡ d.writes;
      changes : f.changes ≡ changes_by s d;
      woken : f.woken ≡ woken_by_changes (changes_by s d) s.processes;
      ended : f.ended ≡ awaited_by_all s.processes (concerned f);
      own : OwnIs f d.own;
      assigns : f.assigns ≡ assigned class d.nbas;
      lines : f.lines ≡ x.lines;
      strobes : f.strobes ≡ has_any d.strobes;
      finishes : f.finishes ≡ d.finish;
    }

pub acts_match : (class : ℕ → ℕ) (design : Design) (s : State) (entry : Entry) (d : Deed) (x : Effect) (f : Footprint) → Acts class design s entry d x f → Matches class s d x f
acts_match class design s (Entry.Turn n) d x f (p, t, is, found, same_d, same_x, same_f) =
    rw (same_d, same_x, same_f)
    (record { active = (Evaluate p, is, refl); writes = refl; changes = refl; woken = refl; ended = refl; own = (refl, refl); assigns = refl; lines = refl; strobes = refl; finishes = refl })
acts_match class design s (Update n) d x f (r, v, is, first, same_d, same_x, same_f) =
    rw (same_d, same_x, same_f)
    (record { active = (Action.Update r v, is, refl); writes = refl; changes = refl; woken = refl; ended = refl; own = tt; assigns = refl; lines = refl; strobes = refl; finishes = refl })
acts_match class design s ActivateInactive d x f acts = absurd acts
acts_match class design s ActivateNba d x f acts = absurd acts
acts_match class design s ActivateMonitor d x f acts = absurd acts
acts_match class design s (Advance time) d x f acts = absurd acts

-- numbers of events

rises_bound : (from to : ℕ) (es : List Event) → EventsRise from es to → from ≤ to
rises_bound from to [] h = h
rises_bound from to (e ∷ es) h = omega (arith, h.0, rises_bound (e.0 + 1) to es h.1)

below_first : (n to : ℕ) (a : Action) (e : Event) (es : List Event) (b : Bool) → (e.0 == n) ≡ b → EventsRise (e.0 + 1) es to → (if b then Some e.1 else action_in es n) ≡ Some a → (action_in es n ≡ Some a → n < to) → n < to
below_first n to a e es true is rises h later = omega (arith, eqb-true e.0 n is, rises_bound (e.0 + 1) to es rises)
below_first n to a e es false is rises h later = later h

-- what is there has a number below that of the next event
pub present_below : (n from to : ℕ) (a : Action) (es : List Event) → EventsRise from es to → action_in es n ≡ Some a → n < to
present_below n from to a [] rises is = cc
present_below n from to a (e ∷ es) rises is = below_first n to a e es (e.0 == n) refl rises.1 is (present_below n (e.0 + 1) to a es rises.1)

there_if : (x : Event) (xs ys : List Event) (m : ℕ) (a : Action) (b : Bool) → (if b then Some x.1 else action_in xs m) ≡ Some a → (action_in xs m ≡ Some a → action_in (xs ++ ys) m ≡ Some a)
    → (if b then Some x.1 else action_in (xs ++ ys) m) ≡ Some a
there_if x xs ys m a true h later = h
there_if x xs ys m a false h later = later h

still_before : (xs ys : List Event) (m : ℕ) (a : Action) → action_in xs m ≡ Some a → action_in (xs ++ ys) m ≡ Some a
still_before [] ys m a h = cc
still_before (x ∷ xs) ys m a h = there_if x xs ys m a (x.0 == m) h (still_before xs ys m a)

-- an event that isn't taken stays active
pub stays_active : (s f : State) (d : Deed) (m : ℕ) (a : Action) → Done s d f → (d.number == m) ≡ false → action_in s.active m ≡ Some a → action_in f.active m ≡ Some a
stays_active s f d m a h other is =
    ap (λ es. action_in es m) h.active
    ∙ still_before (without d.number s.active) (enumerate_from s.next_event (evaluations_made (changes_by s d) s.processes)) m a (still_there d.number m s.active other ∙ is)

-- an update stays the first of its class

earlier-append : (class : ℕ → ℕ) (c m : ℕ) (xs ys : List Event) → has_earlier_of_class class c xs m ≡ false → has_earlier_of_class class c ys m ≡ false → has_earlier_of_class class c (xs ++ ys) m ≡ false
earlier-append class c m [] ys h g = g
earlier-append class c m (x ∷ xs) ys h g =
    let (not_it, others) = neither (updates_class class c x.1 && nat_lt x.0 m) (has_earlier_of_class class c xs m) h in
    rw not_it (earlier-append class c m xs ys others g)

earlier_kept : (class : ℕ → ℕ) (c m : ℕ) (e : Event) (es : List Event) (b : Bool) → (updates_class class c e.1 && nat_lt e.0 m) ≡ false → has_earlier_of_class class c es m ≡ false → has_earlier_of_class class c (cond b (e ∷ es) es) m ≡ false
earlier_kept class c m e es true not_it others = rw not_it others
earlier_kept class c m e es false not_it others = others

earlier_without : (class : ℕ → ℕ) (c n m : ℕ) (es : List Event) → has_earlier_of_class class c es m ≡ false → has_earlier_of_class class c (without n es) m ≡ false
earlier_without class c n m [] h = refl
earlier_without class c n m (e ∷ es) h =
    let (not_it, others) = neither (updates_class class c e.1 && nat_lt e.0 m) (has_earlier_of_class class c es m) h in
    earlier_kept class c m e (without n es) (not (e.0 == n)) not_it (earlier_without class c n m es others)

none_and : (b c d : Bool) → c ≡ false → d ≡ false → (b && c || d) ≡ false
none_and true c d g h = rw (g, h) refl
none_and false c d g h = h

none_earlier : (class : ℕ → ℕ) (c m from to : ℕ) (es : List Event) → EventsRise from es to → m ≤ from → has_earlier_of_class class c es m ≡ false
none_earlier class c m from to [] rises less = refl
none_earlier class c m from to (e ∷ es) rises less =
    let late : nat_lt e.0 m ≡ false = grind (arith, leb_tells (suc e.0) m, rises.0, less) in
    none_and (updates_class class c e.1) (nat_lt e.0 m) (has_earlier_of_class class c es m) late (none_earlier class c m (e.0 + 1) to es rises.1 (omega (arith, rises.0, less)))

stays_first : (class : ℕ → ℕ) (s f : State) (d : Deed) (m c : ℕ) → Done s d f → m < s.next_event → has_earlier_of_class class c s.active m ≡ false → has_earlier_of_class class c f.active m ≡ false
stays_first class s f d m c h less first =
    let made : List Action = evaluations_made (changes_by s d) s.processes in
    ap (λ es. has_earlier_of_class class c es m) h.active
    ∙ earlier-append class c m (without d.number s.active) (enumerate_from s.next_event made) (earlier_without class c d.number m s.active first)
    (none_earlier class c m s.next_event (s.next_event + length made) (enumerate_from s.next_event made) (rises-numbered s.next_event made) (omega (arith, less)))

-- a process has the same turn

remainder_if : (b : Bool) (x : Continuation) → (awake b x).remainder ≡ x.remainder
remainder_if true x = refl
remainder_if false x = refl

remainder_stays : (s f : State) (d : Deed) (q : ℕ) (x : Continuation) → Done s d f → Differ d.own (Some (q, x)) → remainder_of f q ≡ remainder_of s q
remainder_stays s f d q x h differ =
    ap (λ ps. (continuation_of ps q).remainder) h.processes
    ∙ ap (λ y. y.remainder) (placed_other d.own (map (woken_from (changes_by s d)) s.processes) q x differ ∙ from_at (changes_by s d) s.processes q)
    ∙ remainder_if (wakes_process (changes_by s d) s.processes q) (continuation_of s.processes q)

turn_stays : (design : Design) (s f : State) (d : Deed) (q : ℕ) (u : Turn) → Done s d f → Differ d.own (Some (q, continuation_after u)) → ((r : ℕ) → contains u.uses r ≡ true → contains (changed_registers (changes_by s d)) r ≡ false)
    → turn_of design s q ≡ Some u → turn_of design f q ≡ Some u
turn_stays design s f d q u h differ uses is =
    let len : length s.store ≡ length f.store = sym (ap length h.store ∙ length_all s.store d.writes) in
    let agree : AgreeOn u.uses s.store f.store = λ r used. sym (ap (λ a. value_of a r) h.store ∙ unchanged s.store d.writes r (uses r used)) in
    ap (λ x. short_turn design q x f.store f.time) (remainder_stays s f d q (continuation_after u) h differ) ∙ ap (short_turn design q (remainder_of s q) f.store) h.time
    ∙ turn_has_frame design q (remainder_of s q) s.store f.store s.time u len is agree

-- and had it before
pub turn_was : (design : Design) (s f : State) (d : Deed) (q : ℕ) (u : Turn) → Done s d f → Differ d.own (Some (q, continuation_after u)) → ((r : ℕ) → contains u.uses r ≡ true → contains (changed_registers (changes_by s d)) r ≡ false)
    → turn_of design f q ≡ Some u → turn_of design s q ≡ Some u
turn_was design s f d q u h differ uses is =
    let len : length f.store ≡ length s.store = ap length h.store ∙ length_all s.store d.writes in
    let agree : AgreeOn u.uses f.store s.store = λ r used. ap (λ a. value_of a r) h.store ∙ unchanged s.store d.writes r (uses r used) in
    let here : short_turn design q (remainder_of s q) f.store s.time ≡ Some u =
    ap (λ x. short_turn design q x f.store s.time) (sym (remainder_stays s f d q (continuation_after u) h differ)) ∙ ap (short_turn design q (remainder_of f q) f.store) (sym h.time) ∙ is in
    turn_has_frame design q (remainder_of s q) f.store s.store s.time u len here agree

-- the footprint stays

length_set : (ps : List Continuation) (p : ℕ) (x : Continuation) → length (slice_set ps p x) ≡ length ps
length_set [] p x = refl
length_set (y ∷ ps) zero x = refl
length_set (y ∷ ps) (suc p) x = ap suc (length_set ps p x)

length_placed : (o : Option (ℕ × Continuation)) (ps : List Continuation) → length (placed o ps) ≡ length ps
length_placed None ps = refl
length_placed (Some own) ps = length_set ps own.0 own.1

length_from : (cs : List RegisterChange) (ps : List Continuation) → length (map (woken_from cs) ps) ≡ length ps
length_from cs [] = refl
length_from cs (x ∷ ps) = ap suc (length_from cs ps)

woken_stay : (s f : State) (d e : Deed) → Done s d f → Leaves s d e → woken_by_changes (changes_by f e) f.processes ≡ woken_by_changes (changes_by s e) s.processes
woken_stay s f d e h off =
    let len : length f.processes ≡ length s.processes = ap length h.processes ∙ length_placed d.own (map (woken_from (changes_by s d)) s.processes) ∙ length_from (changes_by s d) s.processes in
    ap (λ cs. woken_by_changes cs f.processes) (changes_stay s f d e h off) ∙ same_woken (changes_by s e) f.processes s.processes len (λ p. wakes_stay s f d e p h off)

-- the triggers that its own process and those that it wakes wait for
triggers_stay : (s f : State) (d e : Deed) → Done s d f → Leaves s d e → Differ d.own e.own
    → awaited_by_all f.processes (own_of e.own ++ woken_by_changes (changes_by f e) f.processes) ≡ awaited_by_all s.processes (own_of e.own ++ woken_by_changes (changes_by s e) s.processes)
triggers_stay s f d e h off differ =
    ap (λ ws. awaited_by_all f.processes (own_of e.own ++ ws)) (woken_stay s f d e h off)
    ∙ same_awaited f.processes s.processes (own_of e.own ++ woken_by_changes (changes_by s e) s.processes)
    (λ p is. triggers_kept s f d (changes_by s e) e.own p h off.waits off.wakes off.own differ is)

abbrev turn_print : (ℕ → ℕ) → ℕ → Turn → List RegisterChange → List ℕ → List Trigger → Footprint
turn_print class q u cs ws ts =
    record { owner = Process q; uses = u.uses; writes = u.writes; changes = cs; awaits = triggers_of u.wait; woken = ws; ended = ts; assigns = assigned class u.nbas; lines = u.lines; strobes = has_any u.strobes; finishes = u.finish }

abbrev update_print : (ℕ → ℕ) → ℕ → Vector → List RegisterChange → List ℕ → List Trigger → Footprint
update_print class r v cs ws ts =
    record { owner = FirstOf (class r); uses = []; writes = (r, v) ∷ []; changes = cs; awaits = []; woken = ws; ended = ts; assigns = []; lines = []; strobes = false; finishes = false }

pub turn_print_stays : (class : ℕ → ℕ) (s f : State) (d : Deed) (m q : ℕ) (u : Turn) → Done s d f → Leaves s d (turn_deed m q u) → Differ d.own (Some (q, continuation_after u))
    → turn_footprint class f q u ≡ turn_footprint class s q u
turn_print_stays class s f d m q u h off differ =
    let e : Deed = turn_deed m q u in
    ap (λ ts. turn_print class q u (changes_made f.store u.writes) (woken_by_changes (changes_made f.store u.writes) f.processes) ts) (triggers_stay s f d e h off differ)
    ∙ ap (λ ws. turn_print class q u (changes_made f.store u.writes) ws (awaited_by_all s.processes (q ∷ woken_by_changes (changes_made s.store u.writes) s.processes))) (woken_stay s f d e h off)
    ∙ ap (λ cs. turn_print class q u cs (woken_by_changes (changes_made s.store u.writes) s.processes) (awaited_by_all s.processes (q ∷ woken_by_changes (changes_made s.store u.writes) s.processes))) (changes_stay s f d e h off)

unowned : (o : Option (ℕ × Continuation)) → Differ o None
unowned None = tt
unowned (Some own) = tt

pub update_print_stays : (class : ℕ → ℕ) (s f : State) (d : Deed) (m r : ℕ) (v : Vector) → Done s d f → Leaves s d (update_deed m r v) → update_footprint class f r v ≡ update_footprint class s r v
update_print_stays class s f d m r v h off =
    let e : Deed = update_deed m r v in
    ap (λ ts. update_print class r v (changes_by f e) (woken_by_changes (changes_by f e) f.processes) ts) (triggers_stay s f d e h off (unowned d.own))
    ∙ ap (λ ws. update_print class r v (changes_by f e) ws (awaited_by_all s.processes (woken_by_changes (changes_by s e) s.processes))) (woken_stay s f d e h off)
    ∙ ap (λ cs. update_print class r v cs (woken_by_changes (changes_by s e) s.processes) (awaited_by_all s.processes (woken_by_changes (changes_by s e) s.processes))) (changes_stay s f d e h off)

-- an effect's changes stay
values_stay : (s f : State) (d e : Deed) → Done s d f → Leaves s d e → changes_of f.store e.writes ≡ changes_of s.store e.writes
values_stay s f d e h off = values_made f.store e.writes ∙ ap written_values (changes_stay s f d e h off) ∙ sym (values_made s.store e.writes)

-- the second step, after the first
abbrev pub After : (ℕ → ℕ) → Design → State → State → Deed → Entry → Effect → Footprint → Deed → Type 0
After class design s f d entry y g e =
    Leaves s d e → Differ d.own e.own → (d.number == e.number) ≡ false → ((r : ℕ) → contains g.uses r ≡ true → contains (changed_registers (changes_by s d)) r ≡ false) → e.number < s.next_event
    → (z : Effect) × Acts class design f entry e z g × HasSameOutput z y

turn_after : (class : ℕ → ℕ) (design : Design) (s f : State) (d : Deed) (m q : ℕ) (u : Turn) (y : Effect) (g : Footprint) → Done s d f → action_in s.active m ≡ Some (Evaluate q) → turn_of design s q ≡ Some u
    → y ≡ turn_effect s m q u → g ≡ turn_footprint class s q u → After class design s f d (Entry.Turn m) y g (turn_deed m q u)
turn_after class design s f d m q u y g h is found same_y same_g off differ other uses less =
    let used : (r : ℕ) → contains u.uses r ≡ true → contains (changed_registers (changes_by s d)) r ≡ false = λ r h. uses r (ap (λ x. contains x.uses r) same_g ∙ h) in
    let found' : turn_of design f q ≡ Some u = turn_stays design s f d q u h differ used found in
    let print : g ≡ turn_footprint class f q u = same_g ∙ sym (turn_print_stays class s f d m q u h off differ) in
    let output : HasSameOutput (turn_effect f m q u) y = (sym (ap (λ x. x.lines) same_y), values_stay s f d (turn_deed m q u) h off ∙ sym (ap (λ x. x.changes) same_y)) in
    (turn_effect f m q u, (q, u, stays_active s f d m (Evaluate q) h other is, found', refl, refl, print), output)

update_after : (class : ℕ → ℕ) (design : Design) (s f : State) (d : Deed) (m r : ℕ) (v : Vector) (y : Effect) (g : Footprint) → Done s d f → action_in s.active m ≡ Some (Action.Update r v)
    → has_earlier_of_class class (class r) s.active m ≡ false → y ≡ update_effect s m r v → g ≡ update_footprint class s r v → After class design s f d (Update m) y g (update_deed m r v)
update_after class design s f d m r v y g h is first same_y same_g off differ other uses less =
    let print : g ≡ update_footprint class f r v = same_g ∙ sym (update_print_stays class s f d m r v h off) in
    let output : HasSameOutput (update_effect f m r v) y = (sym (ap (λ x. x.lines) same_y), values_stay s f d (update_deed m r v) h off ∙ sym (ap (λ x. x.changes) same_y)) in
    (update_effect f m r v, (r, v, stays_active s f d m (Action.Update r v) h other is, stays_first class s f d m (class r) h less first, refl, refl, print), output)

pub acts_after : (class : ℕ → ℕ) (design : Design) (s f : State) (d e : Deed) (entry : Entry) (y : Effect) (g : Footprint) → Done s d f → Acts class design s entry e y g
    → After class design s f d entry y g e
acts_after class design s f d e (Entry.Turn m) y g h (q, u, is, found, same_e, same_y, same_g) =
    subst (λ x. After class design s f d (Entry.Turn m) y g x) (sym same_e) (turn_after class design s f d m q u y g h is found same_y same_g)
acts_after class design s f d e (Update m) y g h (r, v, is, first, same_e, same_y, same_g) =
    subst (λ x. After class design s f d (Update m) y g x) (sym same_e) (update_after class design s f d m r v y g h is first same_y same_g)
acts_after class design s f d e ActivateInactive y g h acts = absurd acts
acts_after class design s f d e ActivateNba y g h acts = absurd acts
acts_after class design s f d e ActivateMonitor y g h acts = absurd acts
acts_after class design s f d e (Advance time) y g h acts = absurd acts
