-- Actors that wait: in states that are alike the same ones do, and each takes a step, but for turns that are too long.
use Rattle.std.proofs.Common.{◌≡◌, ◌⊎◌, ℕ, ◌≤◌, Bool, true, false, List, [], ◌∷◌, Option, Some, None, refl, sym, ap, ◌∙◌, if◌then◌else◌, ◌==◌, arith, eq-eqb, eqb-true, inl, inr}
use Rattle.std.specs.Prelude.{cond}
use Rattle.logic4.specs.Vector.{Vector}
use Rattle.model.specs.declared.entry.Entry.{Entry}
use Rattle.model.specs.declared.entry.Entry.TheVariants.{Update}
use Rattle.model.specs.Design.{Design}
use Rattle.model.specs.Turns.{Turn}
use Rattle.model.specs.States.{Action, Evaluate, Event, State}
use Rattle.model.specs.Runs.{Effect, action_in, has_any, turn_of, turn_effect, update_effect}
use Rattle.model.specs.Laws.{evaluations_in}
use Rattle.orders.specs.Alike.{IsInOrder, with_update, updates_in}
use Rattle.orders.proofs.EventLists.{evaluations-taken, own_evaluation, find_evaluation}
use Rattle.loose.specs.declared.transition.LooseTransition.{LooseTransition}
use Rattle.loose.specs.declared.transition.LooseTransition.TheVariants.{Process, FirstOf}
use Rattle.loose.specs.Loose.{AlikeIn, of_class, updates_of_class, has_earlier_of_class, loose_transition_of_action}
use Rattle.loose.proofs.ClassLists.{HasFirstOf, find_first}
use Rattle.footprints.specs.Footprints.{Footprint, turn_footprint, update_footprint}
use Rattle.footprints.specs.Moves.{IsWaiting, IsMove, WaitingMoves}
use Rattle.footprints.proofs.Deeds.{turn_deed, update_deed}
use Rattle.footprints.proofs.Steps.{some_same, Acts, acts_step}

-- an active update of a class is among those of its class

kept_any : (w : ℕ × Vector) (us : List (ℕ × Vector)) (b : Bool) → has_any us ≡ true → has_any (cond b (w ∷ us) us) ≡ true
kept_any w us true h = refl
kept_any w us false h = h

among_if : (class : ℕ → ℕ) (c m r : ℕ) (v : Vector) (x : Action) (es : List Event) (b : Bool) → (if b then Some x else action_in es m) ≡ Some (Action.Update r v) → class r ≡ c
    → (action_in es m ≡ Some (Action.Update r v) → has_any (updates_of_class class c es) ≡ true) → has_any (of_class class c (with_update x (updates_in es))) ≡ true
among_if class c m r v (Evaluate p) es true is own later = cc
among_if class c m r v (Evaluate p) es false is own later = later is
among_if class c m r v (Action.Update q w) es true is own later =
    let same : q ≡ r = cc in
    let there : (class q == c) ≡ true = eq-eqb (class q) c (ap class same ∙ own) in
    ap (λ b. has_any (cond b ((q, w) ∷ updates_of_class class c es) (updates_of_class class c es))) there
among_if class c m r v (Action.Update q w) es false is own later = kept_any (q, w) (updates_of_class class c es) (class q == c) (later is)

among : (class : ℕ → ℕ) (c m r : ℕ) (v : Vector) (es : List Event) → action_in es m ≡ Some (Action.Update r v) → class r ≡ c → has_any (updates_of_class class c es) ≡ true
among class c m r v [] is own = cc
among class c m r v (e ∷ es) is own = among_if class c m r v e.1 es (e.0 == m) is own (λ there. among class c m r v es there own)

-- the first of those

head_if : (class : ℕ → ℕ) (c r : ℕ) (v : Vector) (w : ℕ × Vector) (ws us : List (ℕ × Vector)) (b : Bool) → (class w.0 == c) ≡ b → cond b (w ∷ ws) ws ≡ (r, v) ∷ us → (ws ≡ (r, v) ∷ us → class r ≡ c) → class r ≡ c
head_if class c r v w ws us true is h later =
    let same : ◌≡◌ {A = ℕ × Vector} w (r, v) = cc in
    ap (λ (x : ℕ × Vector). class x.0) (sym same) ∙ eqb-true (class w.0) c is
head_if class c r v w ws us false is h later = later h

head_class : (class : ℕ → ℕ) (c r : ℕ) (v : Vector) (ws us : List (ℕ × Vector)) → of_class class c ws ≡ (r, v) ∷ us → class r ≡ c
head_class class c r v [] us h = cc
head_class class c r v (w ∷ ws) us h = head_if class c r v w (of_class class c ws) us (class w.0 == c) refl h (head_class class c r v ws us)

-- where a class has an active update, the first one may be taken
abbrev HasFirstUpdate : (ℕ → ℕ) → State → ℕ → Type 0
HasFirstUpdate class s c =
    (n : ℕ) × (q : ℕ) × (w : Vector) × (action_in s.active n ≡ Some (Action.Update q w)) × (has_earlier_of_class class (class q) s.active n ≡ false) × (class q ≡ c)

first_in : (class : ℕ → ℕ) (s : State) (c : ℕ) (us : List (ℕ × Vector)) → IsInOrder s → updates_of_class class c s.active ≡ us → has_any us ≡ true → HasFirstUpdate class s c
first_in class s c [] order is some = cc
first_in class s c ((q, w) ∷ us) order is some =
    let found : HasFirstOf class c s.active q w = find_first class c q 0 s.next_event w s.active us order.active is in
    let own : class q ≡ c = head_class class c q w (updates_in s.active) us is in
    (found.0, q, w, found.1, ap (λ k. has_earlier_of_class class k s.active found.0) own ∙ found.2, own)

first_of_waiting : (class : ℕ → ℕ) (s : State) (m r : ℕ) (v : Vector) → IsInOrder s → action_in s.active m ≡ Some (Action.Update r v) → HasFirstUpdate class s (class r)
first_of_waiting class s m r v order is =
    first_in class s (class r) (updates_of_class class (class r) s.active) order refl (among class (class r) m r v s.active is refl)

-- who waits in a state waits in one that is alike

waits_by : (class : ℕ → ℕ) (s t : State) (a : LooseTransition) (m : ℕ) (action : Action) → IsInOrder s → IsInOrder t → AlikeIn class s t → action_in s.active m ≡ Some action
    → loose_transition_of_action class (Some action) ≡ Some a → IsWaiting class t a
waits_by class s t a m (Evaluate p) order order' h is own =
    let some : 1 ≤ evaluations_in p t.active = omega (arith, evaluations-taken m p 0 s.next_event (Evaluate p) s.active order.active is, h.active.evaluations p, own_evaluation p) in
    let (n, at_n) = find_evaluation p 0 t.next_event t.active order'.active some in
    (n, Evaluate p, at_n, own)
waits_by class s t a m (Action.Update r v) order order' h is own =
    let some : has_any (updates_of_class class (class r) t.active) ≡ true = ap has_any (sym (h.active.updates (class r))) ∙ among class (class r) m r v s.active is refl in
    let (n, q, w, at_n, first, one) = first_in class t (class r) (updates_of_class class (class r) t.active) order' refl some in
    (n, Action.Update q w, at_n, ap (λ c. Some (FirstOf c)) one ∙ own)

pub waits_alike : (class : ℕ → ℕ) (s t : State) (a : LooseTransition) → IsInOrder s → IsInOrder t → AlikeIn class s t → IsWaiting class s a → IsWaiting class t a
waits_alike class s t a order order' h (m, action, is, own) = waits_by class s t a m action order order' h is own

-- who waits takes a step

abbrev Moves : (ℕ → ℕ) → Design → State → LooseTransition → Type 0
Moves class design s a =
    ((f : Footprint) × (t : State) × IsMove class design s a f t) ⊎ ((p : ℕ) × (a ≡ Process p) × (turn_of design s p ≡ None))

process_moves : (class : ℕ → ℕ) (design : Design) (s : State) (a : LooseTransition) (m p : ℕ) (o : Option Turn) → s.finished ≡ false → action_in s.active m ≡ Some (Evaluate p) → Process p ≡ a → turn_of design s p ≡ o → Moves class design s a
process_moves class design s a m p None going is own found = inr (p, sym own, found)
process_moves class design s a m p (Some turn) going is own found =
    let x : Effect = turn_effect s m p turn in
    let f : Footprint = turn_footprint class s p turn in
    let acts : Acts class design s (Entry.Turn m) (turn_deed m p turn) x f = (p, turn, is, found, refl, refl, refl) in
    inl (f, x.state, (Entry.Turn m, x, acts_step class design s (Entry.Turn m) (turn_deed m p turn) x f going acts, own, refl))

moves_by : (class : ℕ → ℕ) (design : Design) (s : State) (a : LooseTransition) (m : ℕ) (action : Action) → IsInOrder s → s.finished ≡ false → action_in s.active m ≡ Some action
    → loose_transition_of_action class (Some action) ≡ Some a → Moves class design s a
moves_by class design s a m (Evaluate p) order going is own = process_moves class design s a m p (turn_of design s p) going is (some_same (Process p) a own) refl
moves_by class design s a m (Action.Update r v) order going is own =
    let (n, q, w, at_n, first, one) = first_of_waiting class s m r v order is in
    let x : Effect = update_effect s n q w in
    let f : Footprint = update_footprint class s q w in
    let acts : Acts class design s (Update n) (update_deed n q w) x f = (q, w, at_n, first, refl, refl, refl) in
    inl (f, x.state, (Update n, x, acts_step class design s (Update n) (update_deed n q w) x f going acts, ap FirstOf one ∙ some_same (FirstOf (class r)) a own, refl))

pub waiting_moves : WaitingMoves
waiting_moves class design s a order going (m, action, is, own) = moves_by class design s a m action order going is own
