-- Loose steps of actors keep to all that moves keep to.
use Rattle.std.proofs.Common.{◌≡◌, ◌≢◌, ◌⊎◌, ℕ, Bool, true, false, ◌||◌, [], ◌∷◌, Some, refl, sym, ap, subst, ◌∙◌, ◌==◌, eqb-true, true≢false, inl, inr}
use Rattle.model.specs.declared.entry.Entry.{Entry}
use Rattle.model.specs.Design.{Design}
use Rattle.model.specs.Turns.{contains}
use Rattle.model.specs.States.{Action, Evaluate, State}
use Rattle.model.specs.Runs.{Effect, action_in, has_any, taken}
use Rattle.model.specs.Laws.{times_in}
use Rattle.orders.specs.Alike.{IsInOrder}
use Rattle.orders.proofs.Commuting.{apart_commute}
use Rattle.loose.specs.declared.transition.LooseTransition.{LooseTransition}
use Rattle.loose.specs.declared.transition.LooseTransition.TheVariants.{Process}
use Rattle.loose.specs.Loose.{AlikeIn, loose_transition_of_action, loose_transition_of}
use Rattle.loose.specs.LooseLaws.{AreAlikeEffectsIn}
use Rattle.loose.proofs.ClassStates.{states_in-same, states_in-sym, states_in-trans}
use Rattle.loose.proofs.LooseSteps.{loose_step_keeps_order}
use Rattle.loose.proofs.ClassSteps.{alike_in_states_step_alike, loose_transition_has_one_outcome}
use Rattle.footprints.specs.Footprints.{Footprint, footprint, AreApart}
use Rattle.footprints.specs.FootprintLaws.{IsStepWith}
use Rattle.footprints.specs.Moves.{OrderedState, IsWaiting, IsMove, GivesTo, LooseStepsAreMoves}
use Rattle.footprints.proofs.Deeds.{Deed, Done}
use Rattle.footprints.proofs.Steps.{some_same, step_acts, acts_done, Matches, acts_match, stays_active}
use Rattle.footprints.proofs.StepsApart.{and_left, first_of, none_of, apart_is_symmetric, steps_apart_commute, frame_at_the_end}
use Rattle.footprints.proofs.Waiting.{waiting_is_given}
use Rattle.footprints.proofs.AlikeFootprints.{footprint_is_alike, footprint_tells}
use Rattle.footprints.proofs.WaitingActors.{waits_alike}

pub step_order : (class : ℕ → ℕ) (design : Design) (s : State) (entry : Entry) (f : Footprint) (x : Effect) → IsInOrder s → IsStepWith class design s entry f x → IsInOrder x.state
step_order class design s entry f x order step = loose_step_keeps_order class design s entry x order step.0

-- in states that are alike

steps_alike : (class : ℕ → ℕ) (design : Design) (s t u : OrderedState) (a : LooseTransition) (f : Footprint) → AlikeIn class s.0 t.0 → IsMove class design s.0 a f u.0
    → (v : OrderedState) × IsMove class design t.0 a f v.0 × AlikeIn class u.0 v.0
steps_alike class design s t u a f h (entry, x, step, owner, leads) =
    let (other, y, transition, step', alike) = alike_in_states_step_alike class design s.0 t.0 entry x s.1 t.1 h step.0 in
    let print : footprint class design t.0 other ≡ Some f = footprint_is_alike class design s.0 t.0 entry other f x y s.1 t.1 h step step' transition in
    let order : IsInOrder y.state = loose_step_keeps_order class design t.0 other y t.1 step' in
    ((y.state, order), (other, y, (step', print), owner, refl), subst (λ z. AlikeIn class z y.state) leads alike.2)

one_step : (class : ℕ → ℕ) (design : Design) (s t u : OrderedState) (a : LooseTransition) (f g : Footprint) → IsMove class design s.0 a f t.0 → IsMove class design s.0 a g u.0 → (f ≡ g) × AlikeIn class t.0 u.0
one_step class design s t u a f g (d, x, step, owner, leads) (e, y, step', owner', leads') =
    let same : AlikeIn class s.0 s.0 = states_in-same class s.0 in
    let one : loose_transition_of class s.0 e ≡ loose_transition_of class s.0 d =
    (footprint_tells class design s.0 e g y s.1 step').0 ∙ ap Some (owner' ∙ sym owner) ∙ sym (footprint_tells class design s.0 d f x s.1 step).0 in
    let print : footprint class design s.0 e ≡ Some f = footprint_is_alike class design s.0 s.0 d e f x y s.1 s.1 same step step'.0 one in
    let alike : AreAlikeEffectsIn class x y = loose_transition_has_one_outcome class design s.0 s.0 d e x y s.1 s.1 same one step.0 step'.0 in
    (some_same f g (sym print ∙ step'.1), subst (λ z. AlikeIn class t.0 z) leads' (subst (λ z. AlikeIn class z y.state) leads alike.2))

-- who steps has waited
has_waited : (class : ℕ → ℕ) (design : Design) (s t : OrderedState) (a : LooseTransition) (f : Footprint) → IsMove class design s.0 a f t.0 → IsWaiting class s.0 a
has_waited class design s t a f (entry, x, step, owner, leads) =
    let (going, (d, acts)) = step_acts class design s.0 entry x f step in
    let match : Matches class s.0 d x f = acts_match class design s.0 entry d x f acts in
    let (action, is, own) = match.active in
    (d.number, action, is, own ∙ ap Some owner)

-- steps that are apart

not_true : (b : Bool) → (b ≡ true → ⊥) → b ≡ false
not_true true h = absurd (h refl)
not_true false h = refl

moved : (class : ℕ → ℕ) (design : Design) (s : State) (t : OrderedState) (b : LooseTransition) (e : Entry) (g : Footprint) (v : Effect) → IsInOrder s → s ≡ t.0 → IsStepWith class design s e g v → g.owner ≡ b
    → (order : IsInOrder v.state) × IsMove class design t.0 b g v.state
moved class design s t b e g v order same step owner =
    (step_order class design s e g v order step, (e, v, subst (λ z. IsStepWith class design z e g v) same step, owner, refl))

frame : (class : ℕ → ℕ) (design : Design) (s t u : OrderedState) (a b : LooseTransition) (f g : Footprint) → IsMove class design s.0 a f t.0 → IsMove class design s.0 b g u.0 → AreApart f g → (f.finishes ≡ true → ⊥)
    → (v : OrderedState) × IsMove class design t.0 b g v.0
frame class design s t u a b f g (d, x, step, owner, leads) (e, y, step', owner', leads') apart stops =
    let (v, step_v, output, ends, quiet) = frame_at_the_end class design s.0 e d g f y x s.1 step' step (apart_is_symmetric f g apart) (not_true f.finishes stops) in
    let (order, move) = moved class design x.state t b e g v (step_order class design s.0 d f x s.1 step) leads step_v owner' in
    ((v.state, order), move)

exchange : (class : ℕ → ℕ) (design : Design) (s t u : OrderedState) (a b : LooseTransition) (f g : Footprint) → IsMove class design s.0 a f t.0 → IsMove class design s.0 b g u.0 → AreApart f g → (f.finishes ≡ true → ⊥)
    → (g.finishes ≡ true → ⊥) → (v : OrderedState) × (w : OrderedState) × IsMove class design t.0 b g v.0 × IsMove class design u.0 a f w.0 × AlikeIn class v.0 w.0
exchange class design s t u a b f g (d, x, step, owner, leads) (e, y, step', owner', leads') apart stops stops' =
    let (v, w, step_v, step_w, output, output', lines, alike) = steps_apart_commute class design s.0 d e f g x y s.1 step step' apart (not_true f.finishes stops) (not_true g.finishes stops') in
    let (order, move) = moved class design x.state t b e g v (step_order class design s.0 d f x s.1 step) leads step_v owner' in
    let (order', move') = moved class design y.state u a d f w (step_order class design s.0 e g y s.1 step') leads' step_w owner in
    ((v.state, order), (w.state, order'), move, move', alike)

silent : (f g : Footprint) → AreApart f g → f.finishes ≡ true → g.lines ≡ []
silent f g apart ends = none_of g.lines (first_of (has_any g.lines) g.finishes (and_left f.finishes (has_any g.lines || g.finishes) ends apart.finishes))

last : (class : ℕ → ℕ) (design : Design) (s t u : OrderedState) (a b : LooseTransition) (f g : Footprint) → IsMove class design s.0 a f t.0 → f.finishes ≡ true → IsMove class design t.0 b g u.0 → ⊥
last class design s t u a b f g (d, x, step, owner, leads) ends (e, y, step', owner', leads') =
    let over : t.0.finished ≡ true = ap (λ z. z.finished) (sym leads) ∙ (footprint_tells class design s.0 d f x s.1 step).3 ∙ ends in
    let (going, acts) = step_acts class design t.0 e y g step' in
    true≢false (sym over ∙ going)

-- who waits

other_number : (class : ℕ → ℕ) (s : State) (d : Deed) (x : Effect) (f : Footprint) (a b : LooseTransition) (m : ℕ) (action : Action) (same : Bool) → (d.number == m) ≡ same → Matches class s d x f → f.owner ≡ a → a ≢ b
    → action_in s.active m ≡ Some action → loose_transition_of_action class (Some action) ≡ Some b → same ≡ false
other_number class s d x f a b m action true is match owner differ at_m own =
    let (c, at_d, own_d) = match.active in
    let one : Some c ≡ Some action = sym at_d ∙ ap (action_in s.active) (eqb-true d.number m is) ∙ at_m in
    absurd (differ (sym owner ∙ some_same f.owner b (sym own_d ∙ ap (loose_transition_of_action class) one ∙ own)))
other_number class s d x f a b m action false is match owner differ at_m own = refl

stays : (class : ℕ → ℕ) (design : Design) (s t : OrderedState) (a b : LooseTransition) (f : Footprint) → IsMove class design s.0 a f t.0 → a ≢ b → IsWaiting class s.0 b → IsWaiting class t.0 b
stays class design s t a b f (d, x, step, owner, leads) differ (m, action, is, own) =
    let (going, (deed, acts)) = step_acts class design s.0 d x f step in
    let match : Matches class s.0 deed x f = acts_match class design s.0 d deed x f acts in
    let done : Done s.0 deed x.state = acts_done class design s.0 d deed x f s.1 going acts in
    let there : action_in x.state.active m ≡ Some action = stays_active s.0 x.state deed m action done (other_number class s.0 deed x f a b m action (deed.number == m) refl match owner differ is own) is in
    (m, action, ap (λ z. action_in z.active m) (sym leads) ∙ there, own)

given_by : (class : ℕ → ℕ) (s : State) (d : Entry) (f : Footprint) (b : LooseTransition) (m : ℕ) (action : Action) → loose_transition_of_action class (Some action) ≡ Some b
    → ((action_in s.active m ≡ Some action) × (times_in m (taken (d ∷ [])) ≡ 0)) ⊎ ((p : ℕ) × (action ≡ Evaluate p) × (contains f.woken p ≡ true)) → IsWaiting class s b ⊎ GivesTo f b
given_by class s d f b m action own (inl (was, other)) = inl (m, action, was, own)
given_by class s d f b m action own (inr (p, evaluates, woken)) =
    inr (p, sym (some_same (Process p) b (ap (λ c. loose_transition_of_action class (Some c)) (sym evaluates) ∙ own)), woken)

given : (class : ℕ → ℕ) (design : Design) (s t : OrderedState) (a b : LooseTransition) (f : Footprint) → IsMove class design s.0 a f t.0 → IsWaiting class t.0 b → IsWaiting class s.0 b ⊎ GivesTo f b
given class design s t a b f (d, x, step, owner, leads) (m, action, is, own) =
    given_by class s.0 d f b m action own (waiting_is_given class design s.0 d f x m action s.1 step (ap (λ z. action_in z.active m) leads ∙ is))

pub loose_steps_are_moves : LooseStepsAreMoves
loose_steps_are_moves class design =
    record {
      itself = λ s. states_in-same class s.0;
      back = λ s t h. states_in-sym class s.0 t.0 h;
      through = λ s t u g h. states_in-trans class s.0 t.0 u.0 g h;
      steps_alike = λ s t u a f h move. steps_alike class design s t u a f h move;
      waits_alike = λ s t a h waits. waits_alike class s.0 t.0 a s.1 t.1 h waits;
      one_step = λ s t u a f g move other. one_step class design s t u a f g move other;
      waiting = λ s t a f move. has_waited class design s t a f move;
      frame = λ s t u a b f g differ move other apart stops. frame class design s t u a b f g move other apart stops;
      exchange = λ s t u a b f g differ move other apart stops stops'. exchange class design s t u a b f g move other apart stops stops';
      either_way = λ f g apart. apart_commute f.lines g.lines apart.lines;
      silent = λ f g apart ends. silent f g apart ends;
      last = λ s t u a b f g move ends other. last class design s t u a b f g move ends other;
      stays = λ s t a b f move differ waits. stays class design s t a b f move differ waits;
      given = λ s t a b f move waits. given class design s t a b f move waits;
    }
