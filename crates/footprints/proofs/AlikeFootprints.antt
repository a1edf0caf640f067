-- Steps of one loose transition have one footprint.
use Rattle.std.proofs.Common.{◌≡◌, ℕ, suc, ◌+◌, ◌≤◌, Bool, true, false, ◌&&◌, List, [], ◌∷◌, Option, Some, None, refl, sym, ap, ◌∙◌, if◌then◌else◌, ◌==◌, nat_lt, arith, eq-eqb}
use Rattle.std.specs.Prelude.{cond, option_map}
use Rattle.std.proofs.lemmas.Bool.Decides.{leb_tells}
use Rattle.logic4.specs.Vector.{Vector}
use Rattle.model.specs.declared.entry.Refusal.TheVariants.{EarlierUpdate}
use Rattle.model.specs.declared.entry.Entry.{Entry}
use Rattle.model.specs.declared.entry.Entry.TheVariants.{Update, ActivateInactive, ActivateNba, ActivateMonitor, Advance}
use Rattle.model.specs.Design.{Design}
use Rattle.model.specs.Expressions.{Store}
use Rattle.model.specs.Turns.{Turn, short_turn}
use Rattle.model.specs.States.{Action, Evaluate, Event, Continuation, State, triggers_of}
use Rattle.model.specs.Runs.{Effect, action_in, has_any, turn_of, turn_refusal}
use Rattle.model.proofs.RunLaws.{where_none}
use Rattle.orders.specs.Alike.{EventsRise, IsInOrder, with_update, updates_in}
use Rattle.orders.proofs.EventLists.{present_from}
use Rattle.orders.proofs.AlikeSteps.{continuation_of}
use Rattle.loose.specs.declared.transition.LooseTransition.TheVariants.{Process, FirstOf}
use Rattle.loose.specs.Loose.{of_class, updates_of_class, AlikeIn, has_earlier_of_class, loose_update_refusal, loose_entry_refusal, loose_transition_of_action, loose_transition_of}
use Rattle.footprints.specs.Footprints.{Footprint, changes_made, woken_by_changes, awaited_by_all, assigned, turn_footprint, update_footprint, action_footprint, footprint}
use Rattle.footprints.specs.FootprintLaws.{FootprintTells, FootprintIsAlike}
use Rattle.footprints.proofs.ValueChanges.{neither, written_values, values_made}
use Rattle.footprints.proofs.Deeds.{Deed, Done}
use Rattle.footprints.proofs.Steps.{some_same, Acts, loose_parts, step_acts, acts_done, Matches, acts_match}

-- the first update of a class

abbrev HasHead : (ℕ → ℕ) → List Event → ℕ → Vector → Type 0
HasHead class es r v = (us : List (ℕ × Vector)) × (updates_of_class class (class r) es ≡ (r, v) ∷ us)

passed : (class : ℕ → ℕ) (n r : ℕ) (v : Vector) (m : ℕ) (a : Action) (es : List Event) → m + 1 ≤ n → has_earlier_of_class class (class r) ((m, a) ∷ es) n ≡ false
    → (has_earlier_of_class class (class r) es n ≡ false → HasHead class es r v) → (us : List (ℕ × Vector)) × (of_class class (class r) (with_update a (updates_in es)) ≡ (r, v) ∷ us)
passed class n r v m (Evaluate p) es above first later = later first
passed class n r v m (Action.Update q w) es above first later =
    let earlier : nat_lt m n ≡ true = leb_of m n above in
    let (not_it, others) = neither ((class q == class r) && nat_lt m n) (has_earlier_of_class class (class r) es n) first in
    let other : (class q == class r) ≡ false = without_true (class q == class r) (nat_lt m n) earlier not_it in
    let (us, is) = later others in
    (us, ap (λ b. cond b ((q, w) ∷ of_class class (class r) (updates_in es)) (of_class class (class r) (updates_in es))) other ∙ is)
  where
    leb_of : (m n : ℕ) → m + 1 ≤ n → nat_lt m n ≡ true
    leb_of m n above = grind (arith, leb_tells (suc m) n, above)

    without_true : (a b : Bool) → b ≡ true → (a && b) ≡ false → a ≡ false
    without_true true b is h = cc
    without_true false b is h = refl

head_if : (class : ℕ → ℕ) (n r to : ℕ) (v : Vector) (e : Event) (es : List Event) (b : Bool) → (e.0 == n) ≡ b → (if b then Some e.1 else action_in es n) ≡ Some (Action.Update r v) → EventsRise (e.0 + 1) es to
    → has_earlier_of_class class (class r) (e ∷ es) n ≡ false → (action_in es n ≡ Some (Action.Update r v) → has_earlier_of_class class (class r) es n ≡ false → HasHead class es r v) → HasHead class (e ∷ es) r v
head_if class n r to v e es true is h rises first later =
    let same : e.1 ≡ Action.Update r v = some_same e.1 (Action.Update r v) h in
    let head : of_class class (class r) ((r, v) ∷ updates_in es) ≡ (r, v) ∷ of_class class (class r) (updates_in es) = rw (eq-eqb (class r) (class r) refl) refl in
    (of_class class (class r) (updates_in es), ap (λ a. of_class class (class r) (with_update a (updates_in es))) same ∙ head)
head_if class n r to v e es false is h rises first later =
    passed class n r v e.0 e.1 es (present_from n (e.0 + 1) to (Action.Update r v) es rises h) first (later h)

pub first_of_class : (class : ℕ → ℕ) (n r from to : ℕ) (v : Vector) (es : List Event) → EventsRise from es to → action_in es n ≡ Some (Action.Update r v) → has_earlier_of_class class (class r) es n ≡ false → HasHead class es r v
first_of_class class n r from to v [] rises is first = cc
first_of_class class n r from to v (e ∷ es) rises is first =
    head_if class n r to v e es (e.0 == n) refl is rises.1 first (first_of_class class n r (e.0 + 1) to v es rises.1)

-- what a transition says of an action

pub is_of_process : (class : ℕ → ℕ) (p : ℕ) (o : Option Action) → loose_transition_of_action class o ≡ Some (Process p) → o ≡ Some (Evaluate p)
is_of_process class p None h = cc
is_of_process class p (Some (Evaluate q)) h =
    let same : q ≡ p = cc in
    ap (λ x. Some (Evaluate x)) same
is_of_process class p (Some (Action.Update r v)) h = cc

-- the action updates a register of the class
abbrev IsOfClass : (ℕ → ℕ) → ℕ → Option Action → Type 0
IsOfClass class c o = (q : ℕ) × (w : Vector) × (o ≡ Some (Action.Update q w)) × (class q ≡ c)

is_of_class : (class : ℕ → ℕ) (c : ℕ) (o : Option Action) → loose_transition_of_action class o ≡ Some (FirstOf c) → IsOfClass class c o
is_of_class class c None h = cc
is_of_class class c (Some (Evaluate p)) h = cc
is_of_class class c (Some (Action.Update q w)) h =
    let same : class q ≡ c = cc in
    (q, w, refl, same)

-- footprints in states that are alike

abbrev turn_print_in : (ℕ → ℕ) → ℕ → Turn → Store → List Continuation → Footprint
turn_print_in class p t store ps =
    record { owner = Process p; uses = t.uses; writes = t.writes; changes = changes_made store t.writes; awaits = triggers_of t.wait; woken = woken_by_changes (changes_made store t.writes) ps; ended = awaited_by_all ps (p ∷ woken_by_changes (changes_made store t.writes) ps); assigns = assigned class t.nbas; lines = t.lines; strobes = has_any t.strobes; finishes = t.finish }

abbrev update_print_in : (ℕ → ℕ) → ℕ → Vector → Store → List Continuation → Footprint
update_print_in class r v store ps =
    record { owner = FirstOf (class r); uses = []; writes = (r, v) ∷ []; changes = changes_made store ((r, v) ∷ []); awaits = []; woken = woken_by_changes (changes_made store ((r, v) ∷ [])) ps; ended = awaited_by_all ps (woken_by_changes (changes_made store ((r, v) ∷ [])) ps); assigns = []; lines = []; strobes = false; finishes = false }

same_turn_print : (class : ℕ → ℕ) (s t : State) (p : ℕ) (turn : Turn) → AlikeIn class s t → turn_footprint class t p turn ≡ turn_footprint class s p turn
same_turn_print class s t p turn h =
    ap (λ a. turn_print_in class p turn a t.processes) (sym h.store) ∙ ap (λ ps. turn_print_in class p turn s.store ps) (sym h.processes)

same_update_print : (class : ℕ → ℕ) (s t : State) (r : ℕ) (v : Vector) → AlikeIn class s t → update_footprint class t r v ≡ update_footprint class s r v
same_update_print class s t r v h =
    ap (λ a. update_print_in class r v a t.processes) (sym h.store) ∙ ap (λ ps. update_print_in class r v s.store ps) (sym h.processes)

same_turn : (class : ℕ → ℕ) (design : Design) (s t : State) (p : ℕ) → AlikeIn class s t → turn_of design t p ≡ turn_of design s p
same_turn class design s t p h =
    ap (λ ps. short_turn design p (continuation_of ps p).remainder t.store t.time) (sym h.processes) ∙ ap (λ a. short_turn design p (continuation_of s.processes p).remainder a t.time) (sym h.store)
    ∙ ap (λ now. short_turn design p (continuation_of s.processes p).remainder s.store now) (sym h.time)

of_process : (class : ℕ → ℕ) (design : Design) (s t : State) (p : ℕ) (turn : Turn) (f : Footprint) (o : Option Action) → AlikeIn class s t → turn_of design s p ≡ Some turn → f ≡ turn_footprint class s p turn
    → loose_transition_of_action class o ≡ Some (Process p) → action_footprint class design t o ≡ Some f
of_process class design s t p turn f o h found same transition =
    ap (action_footprint class design t) (is_of_process class p o transition) ∙ ap (option_map (turn_footprint class t p)) (same_turn class design s t p h ∙ found)
    ∙ ap Some (same_turn_print class s t p turn h ∙ sym same)

one_head : (r q : ℕ) (v w : Vector) (xs us vs : List (ℕ × Vector)) → xs ≡ (r, v) ∷ us → xs ≡ (q, w) ∷ vs → ◌≡◌ {A = ℕ × Vector} (q, w) (r, v)
one_head r q v w xs us vs g h = cc

of_first : (class : ℕ → ℕ) (design : Design) (s t : State) (n m r q : ℕ) (v w : Vector) (f : Footprint) → IsInOrder s → IsInOrder t → AlikeIn class s t → action_in s.active n ≡ Some (Action.Update r v)
    → has_earlier_of_class class (class r) s.active n ≡ false → f ≡ update_footprint class s r v → action_in t.active m ≡ Some (Action.Update q w) → has_earlier_of_class class (class q) t.active m ≡ false → class q ≡ class r
    → action_footprint class design t (action_in t.active m) ≡ Some f
of_first class design s t n m r q v w f order order' h is first same is' first' one =
    let (us, at_s) = first_of_class class n r 0 s.next_event v s.active order.active is first in
    let (vs, at_t) = first_of_class class m q 0 t.next_event w t.active order'.active is' first' in
    let at_t' : updates_of_class class (class r) s.active ≡ (q, w) ∷ vs = h.active.updates (class r) ∙ ap (λ c. updates_of_class class c t.active) (sym one) ∙ at_t in
    let pair : ◌≡◌ {A = ℕ × Vector} (q, w) (r, v) = one_head r q v w (updates_of_class class (class r) s.active) us vs at_s at_t' in
    ap (action_footprint class design t) is' ∙ ap (λ (u : ℕ × Vector). Some (update_footprint class t u.0 u.1)) pair ∙ ap Some (same_update_print class s t r v h ∙ sym same)

-- the first update of a class, where an entry of that transition has a step
first_entry : (class : ℕ → ℕ) (design : Design) (s t : State) (n r : ℕ) (v : Vector) (e : Entry) (f : Footprint) → IsInOrder s → IsInOrder t → AlikeIn class s t → action_in s.active n ≡ Some (Action.Update r v)
    → has_earlier_of_class class (class r) s.active n ≡ false → f ≡ update_footprint class s r v → loose_entry_refusal class t e ≡ None → loose_transition_of class t e ≡ Some (FirstOf (class r))
    → footprint class design t e ≡ Some f
first_entry class design s t n r v (Entry.Turn m) f order order' h is first same none transition =
    let (q, w, is', one) = is_of_class class (class r) (action_in t.active m) transition in
    let bad : turn_refusal (Some (Action.Update q w)) ≡ None = sym (ap turn_refusal is') ∙ none in
    cc
first_entry class design s t n r v (Update m) f order order' h is first same none transition =
    let (q, w, is', one) = is_of_class class (class r) (action_in t.active m) transition in
    let none' : loose_update_refusal class t m (Some (Action.Update q w)) ≡ None = sym (ap (loose_update_refusal class t m) is') ∙ none in
    let first' : has_earlier_of_class class (class q) t.active m ≡ false = (where_none (has_earlier_of_class class (class q) t.active m) EarlierUpdate None none').0 in
    of_first class design s t n m r q v w f order order' h is first same is' first' one
first_entry class design s t n r v ActivateInactive f order order' h is first same none transition = cc
first_entry class design s t n r v ActivateNba f order order' h is first same none transition = cc
first_entry class design s t n r v ActivateMonitor f order order' h is first same none transition = cc
first_entry class design s t n r v (Advance time) f order order' h is first same none transition = cc

process_entry : (class : ℕ → ℕ) (design : Design) (s t : State) (p : ℕ) (turn : Turn) (e : Entry) (f : Footprint) → AlikeIn class s t → turn_of design s p ≡ Some turn → f ≡ turn_footprint class s p turn
    → loose_transition_of class t e ≡ Some (Process p) → footprint class design t e ≡ Some f
process_entry class design s t p turn (Entry.Turn m) f h found same transition = of_process class design s t p turn f (action_in t.active m) h found same transition
process_entry class design s t p turn (Update m) f h found same transition = of_process class design s t p turn f (action_in t.active m) h found same transition
process_entry class design s t p turn ActivateInactive f h found same transition = cc
process_entry class design s t p turn ActivateNba f h found same transition = cc
process_entry class design s t p turn ActivateMonitor f h found same transition = cc
process_entry class design s t p turn (Advance time) f h found same transition = cc

alike_of : (class : ℕ → ℕ) (design : Design) (s t : State) (a : Entry) (e : Entry) (d : Deed) (x : Effect) (f : Footprint) → IsInOrder s → IsInOrder t → AlikeIn class s t → Acts class design s a d x f
    → loose_entry_refusal class t e ≡ None → loose_transition_of class t e ≡ loose_transition_of class s a → footprint class design t e ≡ Some f
alike_of class design s t (Entry.Turn n) e d x f order order' h (p, turn, is, found, same_d, same_x, same_f) none transition =
    process_entry class design s t p turn e f h found same_f (transition ∙ ap (loose_transition_of_action class) is)
alike_of class design s t (Update n) e d x f order order' h (r, v, is, first, same_d, same_x, same_f) none transition =
    first_entry class design s t n r v e f order order' h is first same_f none (transition ∙ ap (loose_transition_of_action class) is)
alike_of class design s t ActivateInactive e d x f order order' h acts none transition = absurd acts
alike_of class design s t ActivateNba e d x f order order' h acts none transition = absurd acts
alike_of class design s t ActivateMonitor e d x f order order' h acts none transition = absurd acts
alike_of class design s t (Advance time) e d x f order order' h acts none transition = absurd acts

pub footprint_is_alike : FootprintIsAlike
footprint_is_alike class design s t a e f x y order order' h step other transition =
    let (going, (d, acts)) = step_acts class design s a x f step in
    let (going', none, made) = loose_parts class design t e y other in
    alike_of class design s t a e d x f order order' h acts none transition

-- what a footprint tells

told : (class : ℕ → ℕ) (design : Design) (s : State) (a : Entry) (d : Deed) (x : Effect) (f : Footprint) → Acts class design s a d x f
    → (loose_transition_of class s a ≡ Some f.owner) × (x.changes ≡ written_values f.changes)
told class design s (Entry.Turn n) d x f (p, t, is, found, same_d, same_x, same_f) = (
  ap (loose_transition_of_action class) is ∙ ap (λ g. Some g.owner) (sym same_f),
  ap (λ y. y.changes) same_x ∙ values_made s.store t.writes ∙ ap (λ g. written_values g.changes) (sym same_f),
)
told class design s (Update n) d x f (r, v, is, first, same_d, same_x, same_f) = (
  ap (loose_transition_of_action class) is ∙ ap (λ g. Some g.owner) (sym same_f),
  ap (λ y. y.changes) same_x ∙ values_made s.store ((r, v) ∷ []) ∙ ap (λ g. written_values g.changes) (sym same_f),
)
told class design s ActivateInactive d x f acts = absurd acts
told class design s ActivateNba d x f acts = absurd acts
told class design s ActivateMonitor d x f acts = absurd acts
told class design s (Advance time) d x f acts = absurd acts

pub footprint_tells : FootprintTells
footprint_tells class design s a f x order step =
    let (going, (d, acts)) = step_acts class design s a x f step in
    let (transition, changes) = told class design s a d x f acts in
    let match : Matches class s d x f = acts_match class design s a d x f acts in
    let done : Done s d x.state = acts_done class design s a d x f order going acts in
    (transition, sym match.lines, changes, done.finished ∙ sym match.finishes)
