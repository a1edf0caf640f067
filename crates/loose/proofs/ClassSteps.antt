-- States that are alike in classes take loose steps alike.
use Rattle.std.proofs.Common.{◌≡◌, ℕ, ◌≤◌, false, List, [], ◌∷◌, Option, Some, None, refl, sym, ap, ◌∙◌, arith}
use Rattle.logic4.specs.Vector.{Vector}
use Rattle.model.specs.declared.entry.Entry.{Entry}
use Rattle.model.specs.declared.entry.Entry.TheVariants.{Update, ActivateInactive, ActivateNba, ActivateMonitor, Advance}
use Rattle.model.specs.Design.{Design}
use Rattle.model.specs.Turns.{Turn, IsTurn}
use Rattle.model.specs.States.{State, Action, Evaluate, without, inactive_activated, nonblocking_activated, monitored, advanced}
use Rattle.model.specs.Runs.{Effect, action_in, has_any, least, least_time, remainder_of, changes_of, silent, turn_effect, update_effect, strobe_lines, strobe_lines_at}
use Rattle.model.specs.Laws.{evaluations_in}
use Rattle.model.proofs.TurnLaws.{turn_unique}
use Rattle.orders.specs.Alike.{IsInOrder}
use Rattle.orders.proofs.EventLists.{evaluations-taken, own_evaluation, find_evaluation}
use Rattle.orders.proofs.AlikeSteps.{continuation_of}
use Rattle.loose.specs.declared.transition.LooseTransition.{LooseTransition}
use Rattle.loose.specs.declared.transition.LooseTransition.TheVariants.{Process, FirstOf, Change}
use Rattle.loose.specs.Loose.{AlikeIn, has_earlier_of_class, updates_of_class, IsPermittedLoosely, loose_step, loose_transition_of_action, loose_transition_of}
use Rattle.loose.specs.LooseLaws.{AreAlikeEffectsIn, AlikeInStatesStepAlike, LooseTransitionHasOneOutcome}
use Rattle.loose.proofs.ClassLists.{HasFirstOf, first_taken, find_first, alike_in-has_any}
use Rattle.loose.proofs.ClassFutures.{alike_future_in-times}
use Rattle.loose.proofs.ClassStates.{states_in-same, states_in-trans, states_in-turned, states_in-updated, states_in-inactive_activated, states_in-nonblocking_activated, states_in-monitored, states_in-advanced}
use Rattle.loose.proofs.LooseSteps.{from_loose, to_loose}

-- a process has the same turn in both

same_turn : (class : ℕ → ℕ) (design : Design) (s t : State) (p : ℕ) (turn : Turn) → AlikeIn class s t → IsTurn design p (remainder_of s p) s.store s.time turn → IsTurn design p (remainder_of t p) t.store t.time turn
same_turn class design s t p turn h is =
    rw (← ap (λ ps. (continuation_of ps p).remainder) h.processes, ← h.store, ← h.time) is

turn_effects_alike : (class : ℕ → ℕ) (s t : State) (n m p : ℕ) (turn : Turn) → IsInOrder s → IsInOrder t → AlikeIn class s t → action_in s.active n ≡ Some (Evaluate p) → action_in t.active m ≡ Some (Evaluate p)
    → AreAlikeEffectsIn class (turn_effect s n p turn) (turn_effect t m p turn)
turn_effects_alike class s t n m p turn i j h at_n at_m =
    (refl, ap (λ x. changes_of x turn.writes) h.store, states_in-turned class s t n m p turn i j h at_n at_m)

update_effects_alike : (class : ℕ → ℕ) (s t : State) (n m r : ℕ) (v : Vector) → IsInOrder s → IsInOrder t → AlikeIn class s t → action_in s.active n ≡ Some (Action.Update r v) → action_in t.active m ≡ Some (Action.Update r v)
    → has_earlier_of_class class (class r) s.active n ≡ false → has_earlier_of_class class (class r) t.active m ≡ false → AreAlikeEffectsIn class (update_effect s n r v) (update_effect t m r v)
update_effects_alike class s t n m r v i j h at_n at_m first_n first_m =
    (refl, ap (λ x. changes_of x ((r, v) ∷ [])) h.store, states_in-updated class s t n m r v i j h at_n at_m first_n first_m)

-- an entry of the same transition leads on from the other state
abbrev Answered : (ℕ → ℕ) → Design → State → State → Entry → Effect → Type 0
Answered class design s t entry f =
    (other : Entry) × (g : Effect) × (loose_transition_of class t other ≡ loose_transition_of class s entry)
    × (loose_step class design t other ≡ Some g) × AreAlikeEffectsIn class f g

pub time_same_in : (class : ℕ → ℕ) (s t : State) → AlikeIn class s t → least_time s ≡ least_time t
time_same_in class s t h =
    ap least (alike_future_in-times class s.future_inactive t.future_inactive s.future_nonblocking t.future_nonblocking h.future_inactive h.future_nonblocking)

permitted_alike : (class : ℕ → ℕ) (design : Design) (s t : State) (entry : Entry) (f : Effect) → IsInOrder s → IsInOrder t → AlikeIn class s t → s.finished ≡ false → IsPermittedLoosely class design s entry f → Answered class design s t entry f
permitted_alike class design s t (Entry.Turn n) f i j h going (p, turn, is, exact, short, same) =
    let some : 1 ≤ evaluations_in p t.active = omega (arith, evaluations-taken n p 0 s.next_event (Evaluate p) s.active i.active is, h.active.evaluations p, own_evaluation p) in
    let (m, at_m) = find_evaluation p 0 t.next_event t.active j.active some in
    let g : Effect = turn_effect t m p turn in
    let permitted : IsPermittedLoosely class design t (Entry.Turn m) g = (p, turn, at_m, same_turn class design s t p turn h exact, short, refl) in
    let alike : AreAlikeEffectsIn class f g = rw same (turn_effects_alike class s t n m p turn i j h is at_m) in
    (Entry.Turn m, g, ap (loose_transition_of_action class) (at_m ∙ sym is), to_loose class design t (Entry.Turn m) g (sym h.finished ∙ going, permitted), alike)
permitted_alike class design s t (Update n) f i j h going (r, v, is, first, same) =
    let found : HasFirstOf class (class r) t.active r v = find_first class (class r) r 0 t.next_event v t.active (updates_of_class class (class r) (without n s.active)) j.active (sym (h.active.updates (class r)) ∙ first_taken class (class r) n r 0 s.next_event v s.active refl i.active is first) in
    let (m, at_m, first_m) = found in
    let g : Effect = update_effect t m r v in
    let permitted : IsPermittedLoosely class design t (Update m) g = (r, v, at_m, first_m, refl) in
    let alike : AreAlikeEffectsIn class f g = rw same (update_effects_alike class s t n m r v i j h is at_m first first_m) in
    (Update m, g, ap (loose_transition_of_action class) (at_m ∙ sym is), to_loose class design t (Update m) g (sym h.finished ∙ going, permitted), alike)
permitted_alike class design s t ActivateInactive f i j h going (a, b, same) =
    let g : Effect = silent (inactive_activated t) in
    let permitted : IsPermittedLoosely class design t ActivateInactive g =
    (sym (alike_in-has_any class s.active t.active h.active) ∙ a, sym (alike_in-has_any class s.inactive t.inactive h.inactive) ∙ b, refl) in
    let alike : AreAlikeEffectsIn class f g = rw same (refl, refl, states_in-inactive_activated class s t h) in
    (ActivateInactive, g, refl, to_loose class design t ActivateInactive g (sym h.finished ∙ going, permitted), alike)
permitted_alike class design s t ActivateNba f i j h going (a, b, c, same) =
    let g : Effect = silent (nonblocking_activated t) in
    let permitted : IsPermittedLoosely class design t ActivateNba g =
    (sym (alike_in-has_any class s.active t.active h.active) ∙ a, sym (alike_in-has_any class s.inactive t.inactive h.inactive) ∙ b, sym (alike_in-has_any class s.nonblocking t.nonblocking h.nonblocking) ∙ c, refl) in
    let alike : AreAlikeEffectsIn class f g = rw same (refl, refl, states_in-nonblocking_activated class s t h) in
    (ActivateNba, g, refl, to_loose class design t ActivateNba g (sym h.finished ∙ going, permitted), alike)
permitted_alike class design s t ActivateMonitor f i j h going (a, b, c, d, same) =
    let g : Effect = record { state = monitored t; lines = strobe_lines design t; changes = [] } in
    let permitted : IsPermittedLoosely class design t ActivateMonitor g =
    (sym (alike_in-has_any class s.active t.active h.active) ∙ a, sym (alike_in-has_any class s.inactive t.inactive h.inactive) ∙ b, sym (alike_in-has_any class s.nonblocking t.nonblocking h.nonblocking) ∙ c, ap has_any (sym h.monitor) ∙ d, refl) in
    let lines : strobe_lines design s ≡ strobe_lines design t =
    ap (λ x. strobe_lines_at design x s.monitor) h.store ∙ ap (λ x. strobe_lines_at design t.store x) h.monitor in
    let alike : AreAlikeEffectsIn class f g = rw same (lines, refl, states_in-monitored class s t h) in
    (ActivateMonitor, g, refl, to_loose class design t ActivateMonitor g (sym h.finished ∙ going, permitted), alike)
permitted_alike class design s t (Advance time) f i j h going (a, b, c, d, due, below, same) =
    let g : Effect = silent (advanced t time) in
    let permitted : IsPermittedLoosely class design t (Advance time) g =
    (sym (alike_in-has_any class s.active t.active h.active) ∙ a, sym (alike_in-has_any class s.inactive t.inactive h.inactive) ∙ b, sym (alike_in-has_any class s.nonblocking t.nonblocking h.nonblocking) ∙ c, ap has_any (sym h.monitor) ∙ d, sym (time_same_in class s t h) ∙ due, below, refl) in
    let alike : AreAlikeEffectsIn class f g = rw same (refl, refl, states_in-advanced class s t time h) in
    (Advance time, g, refl, to_loose class design t (Advance time) g (sym h.finished ∙ going, permitted), alike)

pub alike_in_states_step_alike : AlikeInStatesStepAlike
alike_in_states_step_alike class design s t entry f i j h is =
    let (going, permitted) = from_loose class design s entry f is in
    permitted_alike class design s t entry f i j h going permitted

-- what a transition says of the entry

of_none : (class : ℕ → ℕ) (design : Design) (t : State) (e : Entry) (g : Effect) → IsPermittedLoosely class design t e g → loose_transition_of class t e ≡ None → ⊥
of_none class design t (Entry.Turn n) g (p, turn, is, exact, short, same) transition =
    let some : Some (Process p) ≡ None = ap (loose_transition_of_action class) (sym is) ∙ transition in
    cc
of_none class design t (Update n) g (r, v, is, first, same) transition =
    let some : Some (FirstOf (class r)) ≡ None = ap (loose_transition_of_action class) (sym is) ∙ transition in
    cc
of_none class design t ActivateInactive g permitted transition = cc
of_none class design t ActivateNba g permitted transition = cc
of_none class design t ActivateMonitor g permitted transition = cc
of_none class design t (Advance time) g permitted transition = cc

abbrev IsOfProcess : Design → State → ℕ → Effect → Type 0
IsOfProcess design t p g =
    (n : ℕ) × (turn : Turn) × (action_in t.active n ≡ Some (Evaluate p)) × IsTurn design p (remainder_of t p) t.store t.time turn × (g ≡ turn_effect t n p turn)

of_process : (class : ℕ → ℕ) (design : Design) (t : State) (e : Entry) (g : Effect) (p : ℕ) → IsPermittedLoosely class design t e g → loose_transition_of class t e ≡ Some (Process p) → IsOfProcess design t p g
of_process class design t (Entry.Turn n) g p (q, turn, is, exact, short, same) transition =
    let some : Some (Process q) ≡ Some (Process p) = ap (loose_transition_of_action class) (sym is) ∙ transition in
    let one : q ≡ p = cc in
    (n, turn, is ∙ ap (λ x. Some (Evaluate x)) one, rw (← one) exact, same ∙ ap (λ x. turn_effect t n x turn) one)
of_process class design t (Update n) g p (r, v, is, first, same) transition =
    let some : Some (FirstOf (class r)) ≡ Some (Process p) = ap (loose_transition_of_action class) (sym is) ∙ transition in
    cc
of_process class design t ActivateInactive g p permitted transition = cc
of_process class design t ActivateNba g p permitted transition = cc
of_process class design t ActivateMonitor g p permitted transition = cc
of_process class design t (Advance time) g p permitted transition = cc

abbrev IsOfFirst : (ℕ → ℕ) → State → ℕ → Effect → Type 0
IsOfFirst class t c g =
    (n : ℕ) × (r : ℕ) × (v : Vector) × (action_in t.active n ≡ Some (Action.Update r v)) × (class r ≡ c)
    × (has_earlier_of_class class (class r) t.active n ≡ false) × (g ≡ update_effect t n r v)

of_first : (class : ℕ → ℕ) (design : Design) (t : State) (e : Entry) (g : Effect) (c : ℕ) → IsPermittedLoosely class design t e g → loose_transition_of class t e ≡ Some (FirstOf c) → IsOfFirst class t c g
of_first class design t (Entry.Turn n) g c (p, turn, is, exact, short, same) transition =
    let some : Some (Process p) ≡ Some (FirstOf c) = ap (loose_transition_of_action class) (sym is) ∙ transition in
    cc
of_first class design t (Update n) g c (r, v, is, first, same) transition =
    let some : Some (FirstOf (class r)) ≡ Some (FirstOf c) = ap (loose_transition_of_action class) (sym is) ∙ transition in
    let one : class r ≡ c = cc in
    (n, r, v, is, one, first, same)
of_first class design t ActivateInactive g c permitted transition = cc
of_first class design t ActivateNba g c permitted transition = cc
of_first class design t ActivateMonitor g c permitted transition = cc
of_first class design t (Advance time) g c permitted transition = cc

of_change : (class : ℕ → ℕ) (design : Design) (t : State) (e d : Entry) (g : Effect) → IsPermittedLoosely class design t e g → loose_transition_of class t e ≡ Some (Change d) → e ≡ d
of_change class design t (Entry.Turn n) d g (p, turn, is, exact, short, same) transition =
    let some : Some (Process p) ≡ Some (Change d) = ap (loose_transition_of_action class) (sym is) ∙ transition in
    cc
of_change class design t (Update n) d g (r, v, is, first, same) transition =
    let some : Some (FirstOf (class r)) ≡ Some (Change d) = ap (loose_transition_of_action class) (sym is) ∙ transition in
    cc
of_change class design t ActivateInactive d g permitted transition = cc
of_change class design t ActivateNba d g permitted transition = cc
of_change class design t ActivateMonitor d g permitted transition = cc
of_change class design t (Advance time) d g permitted transition = cc

-- one transition has one outcome

outcome_of_process : (class : ℕ → ℕ) (design : Design) (t : State) (p : ℕ) (f g : Effect) → IsInOrder t → IsOfProcess design t p f → IsOfProcess design t p g → AreAlikeEffectsIn class f g
outcome_of_process class design t p f g i (n, turn, at_n, exact, same) (m, turn', at_m, exact', same') =
    let one : turn' ≡ turn = turn_unique design p (remainder_of t p) t.store t.time turn' turn exact' exact in
    rw (same, same', one) (turn_effects_alike class t t n m p turn i i (states_in-same class t) at_n at_m)

pair_of : (r q : ℕ) (v w : Vector) (us xs ys : List (ℕ × Vector)) → us ≡ (r, v) ∷ xs → us ≡ (q, w) ∷ ys → ◌≡◌ {A = ℕ × Vector} (q, w) (r, v)
pair_of r q v w us xs ys g h = cc

outcome_of_first : (class : ℕ → ℕ) (t : State) (c : ℕ) (f g : Effect) → IsInOrder t → IsOfFirst class t c f → IsOfFirst class t c g → AreAlikeEffectsIn class f g
outcome_of_first class t c f g i (n, r, v, at_n, own, first_n, same) (m, q, w, at_m, own', first_m, same') =
    let pair : ◌≡◌ {A = ℕ × Vector} (q, w) (r, v) =
    pair_of r q v w (updates_of_class class c t.active) (updates_of_class class c (without n t.active)) (updates_of_class class c (without m t.active)) (first_taken class c n r 0 t.next_event v t.active own i.active at_n first_n) (first_taken class c m q 0 t.next_event w t.active own' i.active at_m first_m) in
    let there : action_in t.active m ≡ Some (Action.Update r v) = at_m ∙ ap (λ (x : ℕ × Vector). Some (Action.Update x.0 x.1)) pair in
    let first : has_earlier_of_class class (class r) t.active m ≡ false = ap (λ (x : ℕ × Vector). has_earlier_of_class class (class x.0) t.active m) (sym pair) ∙ first_m in
    let made : g ≡ update_effect t m r v = same' ∙ ap (λ (x : ℕ × Vector). update_effect t m x.0 x.1) pair in
    rw (same, made) (update_effects_alike class t t n m r v i i (states_in-same class t) at_n there first_n first)

pub effects_in-same : (class : ℕ → ℕ) (f : Effect) → AreAlikeEffectsIn class f f
effects_in-same class f = (refl, refl, states_in-same class f.state)

one_entry : (class : ℕ → ℕ) (design : Design) (t : State) (d e : Entry) (f g : Effect) → d ≡ e → loose_step class design t d ≡ Some f → loose_step class design t e ≡ Some g → AreAlikeEffectsIn class f g
one_entry class design t d e f g same at_d at_e =
    let one : Some f ≡ Some g = sym at_d ∙ ap (λ x. loose_step class design t x) same ∙ at_e in
    let both : f ≡ g = cc in
    rw both (effects_in-same class g)

one_outcome : (class : ℕ → ℕ) (design : Design) (t : State) (d e : Entry) (f g : Effect) (o : Option LooseTransition) → IsInOrder t → loose_transition_of class t d ≡ o → loose_transition_of class t e ≡ o
    → loose_step class design t d ≡ Some f → loose_step class design t e ≡ Some g → IsPermittedLoosely class design t d f → IsPermittedLoosely class design t e g → AreAlikeEffectsIn class f g
one_outcome class design t d e f g None i move_d move_e at_d at_e is_d is_e = absurd (of_none class design t d f is_d move_d)
one_outcome class design t d e f g (Some (Process p)) i move_d move_e at_d at_e is_d is_e =
    outcome_of_process class design t p f g i (of_process class design t d f p is_d move_d) (of_process class design t e g p is_e move_e)
one_outcome class design t d e f g (Some (FirstOf c)) i move_d move_e at_d at_e is_d is_e =
    outcome_of_first class t c f g i (of_first class design t d f c is_d move_d) (of_first class design t e g c is_e move_e)
one_outcome class design t d e f g (Some (Change c)) i move_d move_e at_d at_e is_d is_e =
    one_entry class design t d e f g (of_change class design t d c f is_d move_d ∙ sym (of_change class design t e c g is_e move_e)) at_d at_e

pub effects_in-trans : (class : ℕ → ℕ) (f g k : Effect) → AreAlikeEffectsIn class f g → AreAlikeEffectsIn class g k → AreAlikeEffectsIn class f k
effects_in-trans class f g k (lines, changes, state) (lines', changes', state') =
    (lines ∙ lines', changes ∙ changes', states_in-trans class f.state g.state k.state state state')

pub loose_transition_has_one_outcome : LooseTransitionHasOneOutcome
loose_transition_has_one_outcome class design s t entry other f g i j h transition at_s at_t =
    let (found, k, transition', at_k, alike) = alike_in_states_step_alike class design s t entry f i j h at_s in
    let permitted : IsPermittedLoosely class design t found k = (from_loose class design t found k at_k).1 in
    let permitted' : IsPermittedLoosely class design t other g = (from_loose class design t other g at_t).1 in
    effects_in-trans class f k g alike (one_outcome class design t found other k g (loose_transition_of class s entry) j transition' transition at_k at_t permitted permitted')
