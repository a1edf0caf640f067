-- The actors of a certified run cover what leads on from its start.
use Rattle.std.proofs.Common.{◌≡◌, ◌≢◌, ℕ, ◌<◌, true, false, List, [], ◌∷◌, ◌++◌, length, Option, Some, None, refl, sym, ap, subst, ◌∙◌, arith, append_assoc, append-nil}
use Rattle.std.specs.Prelude.{option_map, option_and_then}
use Rattle.std.specs.List.{Any}
use Rattle.std.proofs.lemmas.Option.{option_and_then_some}
use Rattle.std.proofs.lemmas.List.Elements.{All-nil, All-cons}
use Rattle.model.specs.declared.entry.Entry.{Entry}
use Rattle.model.specs.declared.entry.Entry.TheVariants.{Turn, Update, ActivateInactive, ActivateNba, ActivateMonitor, Advance}
use Rattle.model.specs.declared.end.Limits.{Limits}
use Rattle.model.specs.declared.end.End.{End}
use Rattle.model.specs.Design.{Design}
use Rattle.model.specs.Turns as turns
use Rattle.model.specs.States.{Action, Evaluate, State}
use Rattle.model.specs.Runs.{Effect, action_in, has_any, turn_of, turn_effect, action_effect, joined, silent, EndsIn}
use Rattle.model.specs.Texts.{EndsHere}
use Rattle.orders.specs.Alike.{IsInOrder}
use Rattle.loose.specs.declared.transition.LooseTransition.{LooseTransition}
use Rattle.loose.specs.declared.transition.LooseTransition.TheVariants.{Process, FirstOf, Change}
use Rattle.loose.specs.Loose.{AlikeIn, loose_step, loose_transition_of, loose_transition_of_action}
use Rattle.loose.proofs.ClassStates.{states_in-same, states_in-trans}
use Rattle.loose.proofs.LooseSteps.{loose_step_keeps_order}
use Rattle.traces.specs.Traces.{Moves, AreMoves, IsRunOfMoves, printed_by_steps}
use Rattle.traces.specs.Certificates.{IsCertificate}
use Rattle.footprints.specs.Footprints.{Footprint, turn_footprint, update_footprint, action_footprint, footprint}
use Rattle.footprints.specs.Moves.{OrderedState, IsMove, loose_moves}
use Rattle.footprints.proofs.Steps.{loose_parts}
use Rattle.footprints.proofs.AlikeFootprints.{footprint_tells}
use Rattle.footprints.proofs.LooseMoves.{loose_steps_are_moves}
use Rattle.certificates.specs.CertificateLaws.{NobodyWaits}
use Rattle.certificates.proofs.CertifiedRuns.{certified_is_certificate}
use Rattle.certificates.proofs.Prefixes.{none_where_changed, none_where_ended, whole_where}
use Rattle.certificates.proofs.Tests.{never_true}
use Rattle.looseruns.specs.LooseMoves.{move, moves_from, IsTimelyMove, AreTimelyMoves}
use Rattle.looseruns.specs.LooseCover.{LeadToOneLooseNode}
use Rattle.looseruns.proofs.Moves.{move_is_loose_step, step_has_move, alike_in_states_move_alike}
use Rattle.certifiedruns.specs.CertifiedCover.{actors_of, CertifiedWayCovers}

-- transitions up to the first change of the regions

abbrev pub AreActors : List LooseTransition → Type 0
AreActors [] = Unit {0}
AreActors (Process p ∷ more) = AreActors more
AreActors (FirstOf c ∷ more) = AreActors more
AreActors (Change entry ∷ more) = ⊥

abbrev pub ChangesFirst : List LooseTransition → Type 0
ChangesFirst [] = Unit {0}
ChangesFirst (Process p ∷ more) = ⊥
ChangesFirst (FirstOf c ∷ more) = ⊥
ChangesFirst (Change entry ∷ more) = Unit {0}

abbrev pub Divided : List LooseTransition → Type 0
Divided transitions = (part : List LooseTransition) × (rest : List LooseTransition) × (part ++ rest ≡ transitions) × AreActors part × ChangesFirst rest

pub divided : (transitions : List LooseTransition) → Divided transitions
divided [] = ([], [], refl, tt, tt)
divided (Process p ∷ more) = let (part, rest, same, actors, first) = divided more in (Process p ∷ part, rest, ap (λ ts. Process p ∷ ts) same, actors, first)
divided (FirstOf c ∷ more) = let (part, rest, same, actors, first) = divided more in (FirstOf c ∷ part, rest, ap (λ ts. FirstOf c ∷ ts) same, actors, first)
divided (Change entry ∷ more) = ([], Change entry ∷ more, refl, tt, tt)

-- what transitions lead to, in two parts
abbrev pub LeadThrough : (ℕ → ℕ) → Design → Effect → List LooseTransition → List LooseTransition → Effect → Type 0
LeadThrough class design e part rest g = (f : Effect) × (moves_from class design e part ≡ Some f) × (moves_from class design f rest ≡ Some g)

pub lead_through : (class : ℕ → ℕ) (design : Design) (part rest : List LooseTransition) (e g : Effect) → moves_from class design e (part ++ rest) ≡ Some g → LeadThrough class design e part rest g
lead_through class design [] rest e g run = (e, refl, run)
lead_through class design (a ∷ part) rest e g run =
    option_and_then_some (λ x. moves_from class design (joined e x) (part ++ rest)) (move class design e.state a) g run
    (λ x at_x later.
    let (f, first, last) = lead_through class design part rest (joined e x) g later in
    (f, ap (option_and_then (λ y. moves_from class design (joined e y) part)) at_x ∙ first, last))

-- a loose step that takes an event has a footprint

turn_print : (class : ℕ → ℕ) (design : Design) (s : State) (n p : ℕ) (x : Effect) (o : Option turns.Turn) → option_map (turn_effect s n p) o ≡ Some x → (f : Footprint) × (option_map (turn_footprint class s p) o ≡ Some f)
turn_print class design s n p x None h = cc
turn_print class design s n p x (Some t) h = (turn_footprint class s p t, refl)

event_print : (class : ℕ → ℕ) (design : Design) (s : State) (n : ℕ) (x : Effect) (o : Option Action) → action_effect design s n o ≡ Some x → (f : Footprint) × (action_footprint class design s o ≡ Some f)
event_print class design s n x None h = cc
event_print class design s n x (Some (Evaluate p)) h = turn_print class design s n p x (turn_of design s p) h
event_print class design s n x (Some (Action.Update r v)) h = (update_footprint class s r v, refl)

abbrev IsActor : LooseTransition → Type 0
IsActor (Process p) = Unit {0}
IsActor (FirstOf c) = Unit {0}
IsActor (Change entry) = ⊥

no_actor : (a : LooseTransition) (entry : Entry) → IsActor a → Some (Change entry) ≡ Some a → ⊥
no_actor (Process p) entry actor h = cc
no_actor (FirstOf c) entry actor h = cc
no_actor (Change other) entry actor h = actor

step_print : (class : ℕ → ℕ) (design : Design) (s : State) (entry : Entry) (x : Effect) (a : LooseTransition) → IsActor a → loose_transition_of class s entry ≡ Some a → loose_step class design s entry ≡ Some x → (f : Footprint) × (footprint class design s entry ≡ Some f)
step_print class design s (Turn n) x a actor is step =
    let (going, none, made) = loose_parts class design s (Turn n) x step in
    event_print class design s n x (action_in s.active n) made
step_print class design s (Update n) x a actor is step =
    let (going, none, made) = loose_parts class design s (Update n) x step in
    event_print class design s n x (action_in s.active n) made
step_print class design s ActivateInactive x a actor is step = absurd (no_actor a ActivateInactive actor is)
step_print class design s ActivateNba x a actor is step = absurd (no_actor a ActivateNba actor is)
step_print class design s ActivateMonitor x a actor is step = absurd (no_actor a ActivateMonitor actor is)
step_print class design s (Advance time) x a actor is step = absurd (no_actor a (Advance time) actor is)

abbrev pub lines_of : Footprint → List ℕ
lines_of f = f.lines

owner_is : (a b : LooseTransition) → Some a ≡ Some b → a ≡ b
owner_is a b h = cc

lines_more : (lines first more all f : List ℕ) → first ≡ f → all ≡ (lines ++ first) ++ more → all ≡ lines ++ (f ++ more)
lines_more lines first more all f same is = is ∙ append_assoc lines first more ∙ ap (λ ls. lines ++ (ls ++ more)) same

timely : (limits : Limits) (a : LooseTransition) → IsActor a → IsTimelyMove limits a
timely limits (Process p) actor = tt
timely limits (FirstOf c) actor = tt
timely limits (Change entry) actor = absurd actor

actor_of : (class : ℕ → ℕ) (action : Action) (a : LooseTransition) → loose_transition_of_action class (Some action) ≡ Some a → IsActor a
actor_of class (Evaluate p) a own = subst IsActor (owner_is (Process p) a own) tt
actor_of class (Action.Update r v) a own = subst IsActor (owner_is (FirstOf (class r)) a own) tt

pub none_changed : (class : ℕ → ℕ) (design : Design) (s : State) (entry : Entry) (x : Effect) → move class design s (Change entry) ≡ Some x → has_any s.active ≡ false
none_changed class design s (Turn n) x at_x = cc
none_changed class design s (Update n) x at_x = cc
none_changed class design s ActivateInactive x at_x = none_where_changed class design s ActivateInactive [] x tt at_x
none_changed class design s ActivateNba x at_x = none_where_changed class design s ActivateNba [] x tt at_x
none_changed class design s ActivateMonitor x at_x = none_where_changed class design s ActivateMonitor [] x tt at_x
none_changed class design s (Advance time) x at_x = none_where_changed class design s (Advance time) [] x tt at_x

any_here : {X : Type 0} (P : X → Type 0) (x : X) → P x → Any P (x ∷ [])
any_here {X} P x h = (0, x, omega arith, refl, h)

module _ (class : ℕ → ℕ) (design : Design) where
  abbrev pub moves : Moves OrderedState LooseTransition Footprint
  moves = loose_moves class design

  -- transitions of actors are a run of moves

  moved : (s : OrderedState) (a : LooseTransition) (x : Effect) → IsActor a → move class design s.0 a ≡ Some x → (f : Footprint) × (m : OrderedState) × IsMove class design s.0 a f m.0 × (m.0 ≡ x.state) × (x.lines ≡ f.lines)
  moved s a x actor is =
      let (entry, transition, step) = move_is_loose_step class design s.0 a x s.1 is in
      let (f, print) = step_print class design s.0 entry x a actor transition step in
      let (own, lines, changes, ends) = footprint_tells class design s.0 entry f x s.1 (step, print) in
      let order : IsInOrder x.state = loose_step_keeps_order class design s.0 entry x s.1 step in
      (f, (x.state, order), (entry, x, (step, print), owner_is f.owner a (sym own ∙ transition), refl), refl, lines)

  abbrev pub AreRun : Effect → OrderedState → List LooseTransition → Effect → Type 0
  AreRun e s part g = (w : List (LooseTransition × Footprint)) × (u : OrderedState) × IsRunOfMoves moves s w u × (u.0 ≡ g.state) × (g.lines ≡ e.lines ++ printed_by_steps lines_of w)

  first_actor : (a : LooseTransition) (part : List LooseTransition) → AreActors (a ∷ part) → IsActor a × AreActors part
  first_actor (Process p) part actors = (tt, actors)
  first_actor (FirstOf c) part actors = (tt, actors)
  first_actor (Change entry) part actors = absurd actors

  pub are_run : (part : List LooseTransition) (e g : Effect) (s : OrderedState) → e.state ≡ s.0 → AreActors part → moves_from class design e part ≡ Some g → AreRun e s part g
  are_run [] e g s same actors run =
      let is : e ≡ g = cc in
      ([], s, refl, sym same ∙ ap (λ (z : Effect). z.state) is, ap (λ (z : Effect). z.lines) (sym is) ∙ sym (append-nil e.lines))
  are_run (a ∷ part) e g s same actors run =
      let (actor, others) = first_actor a part actors in
      option_and_then_some (λ x. moves_from class design (joined e x) part) (move class design e.state a) g run
      (λ x at_x later.
      let (f, m, step, leads, lines) = moved s a x actor (ap (λ z. move class design z a) (sym same) ∙ at_x) in
      let (w, u, run_w, ends, all) = are_run part (joined e x) g m (sym leads) others later in
      ((a, f) ∷ w, u, (m, step, run_w), ends, lines_more e.lines x.lines (printed_by_steps lines_of w) g.lines f.lines lines all))

  -- and back, up to states that are alike

  abbrev pub HasWay : Effect → List (LooseTransition × Footprint) → State → Type 0
  HasWay e v t = (f : Effect) × (moves_from class design e (actors_of v) ≡ Some f) × (f.lines ≡ e.lines ++ printed_by_steps lines_of v) × AlikeIn class t f.state

  step_moves : (s m : OrderedState) (a : LooseTransition) (f : Footprint) (e : Effect) → IsInOrder e.state → AlikeIn class s.0 e.state → IsMove class design s.0 a f m.0
      → (x : Effect) × (move class design e.state a ≡ Some x) × (x.lines ≡ f.lines) × IsInOrder x.state × AlikeIn class m.0 x.state
  step_moves s m a f e order near (entry, y, step, owner, leads) =
      let (own, lines, changes, ends) = footprint_tells class design s.0 entry f y s.1 step in
      let (z, at_z, (lines_z, changes_z, near_z)) = step_has_move class design s.0 entry y a s.1 step.0 (own ∙ ap Some owner) in
      let (x, at_x, (lines_x, changes_x, near_x)) = alike_in_states_move_alike class design s.0 e.state a z s.1 order near at_z in
      let (entry', transition', step') = move_is_loose_step class design e.state a x order at_x in
      (x, at_x, sym lines_x ∙ sym lines_z ∙ lines, loose_step_keeps_order class design e.state entry' x order step', subst (λ q. AlikeIn class q x.state) leads (states_in-trans class y.state z.state x.state near_z near_x))

  pub has_way : (v : List (LooseTransition × Footprint)) (s t : OrderedState) (e : Effect) → IsInOrder e.state → AlikeIn class s.0 e.state → IsRunOfMoves moves s v t → HasWay e v t.0
  has_way [] s t e order near run = (e, refl, sym (append-nil e.lines), subst (λ (q : OrderedState). AlikeIn class q.0 e.state) run near)
  has_way (y ∷ v) s t e order near (m, step, later) =
      let (x, at_x, lines, order', near') = step_moves s m y.0 y.1 e order near step in
      let (f, run, all, near'') = has_way v m t (joined e x) order' near' later in
      (f, ap (option_and_then (λ z. moves_from class design (joined e z) (actors_of v))) at_x ∙ run, lines_more e.lines x.lines (printed_by_steps lines_of v) f.lines y.1.lines lines all, near'')

  is_actor : (s m : OrderedState) (a : LooseTransition) (f : Footprint) → IsMove class design s.0 a f m.0 → IsActor a
  is_actor s m a f step =
      let laws : AreMoves moves = loose_steps_are_moves class design in
      let (number, action, is, own) = laws.waiting s m a f step in
      actor_of class action a own

  pub are_timely : (limits : Limits) (v : List (LooseTransition × Footprint)) (s t : OrderedState) → IsRunOfMoves moves s v t → AreTimelyMoves limits (actors_of v)
  are_timely limits [] s t run = All-nil (IsTimelyMove limits)
  are_timely limits (y ∷ v) s t (m, step, later) =
      All-cons (IsTimelyMove limits) y.0 (actors_of v) (timely limits y.0 (is_actor s m y.0 y.1 step)) (are_timely limits v m t later)

  -- what leads on can't go on by events, where it has come to a change of the regions or to an end

  stuck_at : (limits : Limits) (s t u : OrderedState) (v w : List (LooseTransition × Footprint)) (f g : Effect) (rest : List LooseTransition) (end : End) → IsCertificate moves s v t → NobodyWaits class t.0 → IsRunOfMoves moves s w u
      → u.0 ≡ f.state → ChangesFirst rest → moves_from class design f rest ≡ Some g → EndsHere design limits g end → has_any u.0.active ≡ true → u.0.finished ≡ false → ⊥
  stuck_at limits s t u v w f g [] end cert over run same first goes (most, memory, ends) some going =
      let is : f ≡ g = cc in
      none_where_ended class design limits s t u v w cert over run end most memory some going (subst (λ z. EndsIn design limits 0 z end) (sym (same ∙ ap (λ (z : Effect). z.state) is)) ends)
  stuck_at limits s t u v w f g (Process p ∷ rest) end cert over run same first goes ends some going = first
  stuck_at limits s t u v w f g (FirstOf c ∷ rest) end cert over run same first goes ends some going = first
  stuck_at limits s t u v w f g (Change entry ∷ rest) end cert over run same first goes ends some going =
      option_and_then_some (λ x. moves_from class design (joined f x) rest) (move class design f.state (Change entry)) g goes
      (λ x at_x later. never_true (has_any u.0.active) some (ap (λ z. has_any z.active) same ∙ none_changed class design f.state entry x at_x))

  -- something leads on to where nobody waits, if somebody waits first
  some_part : (s t u : OrderedState) (v : List (LooseTransition × Footprint)) (f : Effect) (part : List LooseTransition) → v ≢ [] → IsRunOfMoves moves s v t → NobodyWaits class t.0 → u.0 ≡ f.state → AlikeIn class u.0 t.0
      → moves_from class design (silent s.0) part ≡ Some f → 0 < length part
  some_part s t u [] f part some run over is near begins = absurd (some refl)
  some_part s t u (y ∷ v) f (a ∷ part) some run over is near begins = omega arith
  some_part s t u (y ∷ v) f [] some (m, step, later) over is near begins =
      let laws : AreMoves moves = loose_steps_are_moves class design in
      let same : silent s.0 ≡ f = cc in
      let near_s : AlikeIn class s.0 t.0 = subst (λ z. AlikeIn class z t.0) (is ∙ sym (ap (λ (z : Effect). z.state) same)) near in
      absurd (over y.0 (laws.waits_alike s t y.0 near_s (laws.waiting s m y.0 y.1 step)))

pub certified_way_covers : CertifiedWayCovers
certified_way_covers class design limits s order t v some come run certified over transition more g end goes timely ends =
    let start : OrderedState = (s, order) in
    let (part, rest, same, actors, first) = divided (transition ∷ more) in
    let (f, begins, later) = lead_through class design part rest (silent s) g (ap (moves_from class design (silent s)) same ∙ goes) in
    let (w, u, run_w, is, lines) = are_run class design part (silent s) f start refl actors begins in
    let cert : IsCertificate (loose_moves class design) start v t = certified_is_certificate class design start t v come run certified in
    let (near, prints) =
    whole_where class design limits start t u v w cert over run_w (stuck_at class design limits start t u v w f g rest end cert over run_w is first later ends) in
    let (way, leads, all, near_way) = has_way class design v start t (silent s) order (states_in-same class s) run in
    let one : LeadToOneLooseNode class design limits s part (actors_of v) = (
      f,
      way,
      begins,
      leads,
      are_timely class design limits v start t run,
      (lines ∙ prints ∙ sym all, states_in-trans class f.state t.0 way.state (subst (λ z. AlikeIn class z t.0) is near) near_way),
    ) in
    (part, rest, some_part class design start t u v f part some run over is near begins, same, any_here (λ others. LeadToOneLooseNode class design limits s part others) (actors_of v) one)
