-- Wherever a way leads that takes no event of a member, its steps have what the certified steps have.
use Rattle.std.proofs.Common.{◌≡◌, ◌⊎◌, ℕ, zero, suc, ◌+◌, ◌≤◌, Bool, true, false, ◌&&◌, ◌||◌, ◌==◌, List, [], ◌∷◌, ◌++◌, inl, inr, map, Some, refl, sym, ap, subst, ◌∙◌, arith, if◌then◌else◌, eq-eqb, true≢false, append_assoc}
use Rattle.std.specs.Prelude.{◌<◌, not, cond, option_map, slice_index_or}
use Rattle.std.specs.List.{Contains, list_any, enumerate_from}
use Rattle.model.specs.declared.tree.Change.TheVariants.{Any}
use Rattle.model.specs.declared.entry.Entry.{Entry}
use Rattle.model.specs.declared.entry.Entry.TheVariants.{Update, ActivateInactive, ActivateNba, ActivateMonitor, Advance}
use Rattle.model.specs.Design.{Design, Trigger}
use Rattle.model.specs.Turns.{contains}
use Rattle.model.specs.Turns as turns
use Rattle.model.specs.States.{Action, Evaluate, Event, Continuation, State, edge_matches, without}
use Rattle.model.specs.Runs.{Effect, action_in, turn_of, joined, turn_effect, update_effect}
use Rattle.model.specs.Laws.{evaluations_in}
use Rattle.logic4.specs.Edges.{edge}
use Rattle.logic4.specs.Vector.{Vector}
use Rattle.orders.specs.Alike.{IsInOrder}
use Rattle.phases.specs.Phase.{IsActive}
use Rattle.orders.proofs.Commuting.{turn_step}
use Rattle.orders.proofs.EventLists.{evaluations-append, find_evaluation}
use Rattle.phases.proofs.Events.{active_at}
use Rattle.orders.proofs.Stores.{append-none}
use Rattle.loose.specs.declared.transition.LooseTransition.{LooseTransition}
use Rattle.loose.specs.declared.transition.LooseTransition.TheVariants.{Process, FirstOf}
use Rattle.loose.specs.Loose.{has_earlier_of_class, AlikeIn, loose_step}
use Rattle.loose.proofs.ClassStates.{states_in-trans}
use Rattle.loose.proofs.LooseSteps.{from_loose, to_loose, loose_step_keeps_order}
use Rattle.phases.specs.Phase.{Block, TakesEvent, triggers}
use Rattle.phases.proofs.Members.{Standing}
use Rattle.loosephases.specs.Held.{AreHeldMembers, HasCone, KeepsOffHeld, OthersKeepOff, TakesOther, IsWayOfOthers}
use Rattle.loosephases.proofs.HeldRuns.{held_stays_held}
use Rattle.traces.specs.Traces.{Moves, IsRunOfMoves, printed_by_steps, NoneEnds, AreAmong}
use Rattle.traces.specs.Certificates.{IsCertificate, HoldsOf}
use Rattle.traces.specs.StandsFor.{FoundOfSet, StandsFor, RunsAlone}
use Rattle.traces.specs.Restricted.{restricted}
use Rattle.traces.proofs.RunLaws.{runs_both, runs_once}
use Rattle.traces.proofs.CertifiedSets.{certificate_stands_for}
use Rattle.footprints.specs.Footprints.{RegisterChange, Footprint, changes_made, changed_registers, matches_any, footprint, turn_footprint, update_footprint, action_footprint}
use Rattle.footprints.specs.Moves.{OrderedState, IsWaiting, GivesTo}
use Rattle.footprints.proofs.Waking.{wakes_process, one_where, evaluations_made, made_evaluations}
use Rattle.footprints.proofs.Deeds.{Deed, Done, changes_by}
use Rattle.footprints.proofs.Steps.{Acts, step_acts}
use Rattle.certificates.specs.CertificateLaws.{NobodyWaits}
use Rattle.heldmoves.specs.WithoutHeld.{without_held}
use Rattle.heldmoves.specs.HeldMoves.{IsHeldMove, held_moves}
use Rattle.heldmoves.proofs.LeftAside.{found_there, turn_same}
use Rattle.heldmoves.proofs.BesideHeld.{goes_low, held_deed}
use Rattle.heldmoves.proofs.OfOthers.{held_steps_are_moves, held_steps_have_swaps}
use Rattle.certificates.specs.Certified.{AreCertified}
use Rattle.certificates.proofs.OneEvent.{HasOneEvent}
use Rattle.heldways.specs.Passing.{Passing, AllPass}
use Rattle.heldways.specs.HeldWays.{StepKeepsOff, HasConeOfAll}
use Rattle.heldways.proofs.OneEventEach.{without_has_one, certificate_of}

-- From a state in which no process sleeps the steps of all but held members lead to where none but members are active. These steps are
-- certified, with footprints that leave aside what is held, and keep off what is held; and what they change passes.
pub record HasCertifiedWay (class : ℕ → ℕ) (design : Design) (members : List ℕ) (block : ℕ → Block) (rank : ℕ → ℕ) (passes : Passing) (s : State) : Type 0 where
  pub order : IsInOrder s
  pub held : AreHeldMembers design s members block rank
  pub steps : List (LooseTransition × Footprint)
  pub last : OrderedState
  pub runs : IsRunOfMoves (held_moves class design (contains members)) (s, order) steps last
  pub certified : AreCertified class design steps
  pub over : NobodyWaits class (without_held (contains members) last.0)
  pub touched : List ℕ
  pub cone : List ℕ
  pub has_cone : HasConeOfAll s members block touched cone
  pub keep : HoldsOf (StepKeepsOff members block cone touched) steps
  pub steps_pass : HoldsOf (λ f. AllPass passes f.changes) steps

-- who waits for any change of some registers, and is woken, is so by a change of one of them

abbrev IsTouched : List RegisterChange → List ℕ → Type 0
IsTouched cs inputs = (q : ℕ) × (contains (changed_registers cs) q ≡ true) × (contains inputs q ≡ true)

or_right : (a b : Bool) → b ≡ true → (a || b) ≡ true
or_right true b h = refl
or_right false b h = h

or_left : (a b : Bool) → a ≡ true → (a || b) ≡ true
or_left true b h = refl
or_left false b h = cc

among_inputs : (c : RegisterChange) (inputs : List ℕ) → list_any (λ (t : Trigger). (t.1 == c.register) && edge_matches t.0 (edge c.before c.after)) (map (λ r. (Any, r)) inputs) ≡ true → contains inputs c.register ≡ true
among_inputs c [] h = h
among_inputs c (r ∷ inputs) h =
    either (r == c.register) (edge_matches Any (edge c.before c.after)) (list_any (λ (t : Trigger). (t.1 == c.register) && edge_matches t.0 (edge c.before c.after)) (map (λ r. (Any, r)) inputs)) h (among_inputs c inputs)
  where
    either : (here match others : Bool) → ((here && match) || others) ≡ true → (others ≡ true → contains inputs c.register ≡ true) → (here || contains inputs c.register) ≡ true
    either true match others h later = refl
    either false match others h later = later h

touched_if : (c : RegisterChange) (cs : List RegisterChange) (inputs : List ℕ) (here : Bool)
    → list_any (λ (t : Trigger). (t.1 == c.register) && edge_matches t.0 (edge c.before c.after)) (map (λ r. (Any, r)) inputs) ≡ here → (here || matches_any (map (λ r. (Any, r)) inputs) cs) ≡ true
    → (matches_any (map (λ r. (Any, r)) inputs) cs ≡ true → IsTouched cs inputs) → IsTouched (c ∷ cs) inputs
touched_if c cs inputs true is h later =
    (c.register, or_left (c.register == c.register) (contains (changed_registers cs) c.register) (eq-eqb c.register c.register refl), among_inputs c inputs is)
touched_if c cs inputs false is h later =
    let (q, there, input) = later h in
    (q, or_right (c.register == q) (contains (changed_registers cs) q) there, input)

touched_by : (cs : List RegisterChange) (inputs : List ℕ) → matches_any (map (λ r. (Any, r)) inputs) cs ≡ true → IsTouched cs inputs
touched_by [] inputs h = cc
touched_by (c ∷ cs) inputs h =
    touched_if c cs inputs (list_any (λ (t : Trigger). (t.1 == c.register) && edge_matches t.0 (edge c.before c.after)) (map (λ r. (Any, r)) inputs)) refl h
    (touched_by cs inputs)

-- fewer are left of the evaluations of a process once an event is taken
fewer : (n p : ℕ) (es : List Event) → evaluations_in p (without n es) ≤ evaluations_in p es
fewer n p [] = omega arith
fewer n p (e ∷ es) = either (not (e.0 == n)) (fewer n p es)
  where
    either : (kept : Bool) → evaluations_in p (without n es) ≤ evaluations_in p es → evaluations_in p (cond kept (e ∷ without n es) (without n es)) ≤ evaluations_in p (e ∷ es)
    either true h = omega (arith, h)
    either false h = omega (arith, h)

-- the lines of one step more
lines_on : (e f y : Effect) (before own : List ℕ) → f.lines ≡ e.lines ++ before → y.lines ≡ own → f.lines ++ y.lines ≡ e.lines ++ (before ++ own)
lines_on e f y before own h same = ap (λ ls. ls ++ y.lines) h ∙ append_assoc e.lines before y.lines ∙ ap (λ ls. e.lines ++ (before ++ ls)) same

module _ (class : ℕ → ℕ) (design : Design) (members : List ℕ) (block : ℕ → Block) (rank : ℕ → ℕ) (passes : Passing) (s : State) (events : (p : ℕ) → HasOneEvent s p) (way : HasCertifiedWay class design members block rank passes s) where
  abbrev held : ℕ → Bool
  held = contains members

  abbrev moves : Moves OrderedState LooseTransition Footprint
  moves = held_moves class design held

  abbrev all : LooseTransition → Bool
  all a = true

  abbrev begin : OrderedState
  begin = (s, way.order)

  -- what holds of each certified step
  abbrev Keeps : Footprint → Unit {0} → Type 0
  Keeps f summary = StepKeepsOff members block way.cone way.touched f × AllPass passes f.changes

  abbrev found : FoundOfSet LooseTransition Footprint (Unit {0})
  found = record { ways = way.steps ∷ []; texts = []; summary = tt }

  all_keep : (w : List (LooseTransition × Footprint)) → HoldsOf (StepKeepsOff members block way.cone way.touched) w → HoldsOf (λ f. AllPass passes f.changes) w
      → HoldsOf (λ f. Keeps f tt × ((b : LooseTransition) → GivesTo f b → all b ≡ true)) w
  all_keep [] h g = tt
  all_keep (x ∷ w) h g = (((h.0, g.0), λ b gives. refl), all_keep w h.1 g.1)

  abbrev Stands : Type 0
  Stands = StandsFor moves Keeps all begin found

  stands : Stands
  stands =
      let cert : IsCertificate (restricted moves all) begin way.steps way.last = certificate_of class design held way.steps begin way.last (λ p. without_has_one held s p (events p)) way.runs way.certified in
      certificate_stands_for moves Keeps all begin way.last way.steps found (held_steps_are_moves class design held) (held_steps_have_swaps class design held) cert
      (λ a own waits. way.over a waits) (all_keep way.steps way.keep way.steps_pass) (0, omega arith, refl)

  all_among : (w : List (LooseTransition × Footprint)) → AreAmong (λ a. all a ≡ true) w
  all_among [] = tt
  all_among (x ∷ w) = (refl, all_among w)

  -- a member that is active has its outputs in the cone
  abbrev ArePending : State → Type 0
  ArePending u = (p r : ℕ) → contains members p ≡ true → IsActive u p → contains (block p).outputs r ≡ true → contains way.cone r ≡ true

  has_cone : (u : State) → ArePending u → HasCone u members block way.cone
  has_cone u pending = record { begins = pending; goes_on = way.has_cone.pending.goes_on }

  -- whoever is active and no member keeps off

  abbrev HasTurn : State → ℕ → Footprint → Type 0
  HasTurn u p g = (turn : turns.Turn) × (turn_of design u p ≡ Some turn) × (g ≡ turn_footprint class (without_held held u) p turn)

  owner_is : (p q : ℕ) → Process p ≡ Process q → p ≡ q
  owner_is p q h = cc

  has_turn : (u : State) (p : ℕ) (entry : Entry) (d : Deed) (y : Effect) (g : Footprint) → g.owner ≡ Process p → Acts class design (without_held held u) entry d y g → HasTurn u p g
  has_turn u p (Entry.Turn n) d y g owner (q, turn, at, it, same_d, same_y, same_g) =
      let one : q ≡ p = owner_is q p (sym (ap (λ (z : Footprint). z.owner) same_g) ∙ owner) in
      (turn, sym (turn_same design held u p) ∙ ap (λ k. turn_of design (without_held held u) k) (sym one) ∙ it, same_g ∙ ap (λ k. turn_footprint class (without_held held u) k turn) one)
  has_turn u p (Update n) d y g owner (r, v, at, first, same_d, same_y, same_g) =
      let bad : FirstOf (class r) ≡ Process p = sym (ap (λ (z : Footprint). z.owner) same_g) ∙ owner in
      cc
  has_turn u p ActivateInactive d y g owner acts = absurd acts
  has_turn u p ActivateNba d y g owner acts = absurd acts
  has_turn u p ActivateMonitor d y g owner acts = absurd acts
  has_turn u p (Advance time) d y g owner acts = absurd acts

  keeps_held : (u : State) (p : ℕ) (turn : turns.Turn) (g : Footprint) → ArePending u → g ≡ turn_footprint class (without_held held u) p turn → Keeps g tt → KeepsOffHeld u members block turn
  keeps_held u p turn g pending same keeps =
      let both : Keeps (turn_footprint class (without_held held u) p turn) tt = subst (λ (z : Footprint). Keeps z tt) same keeps in
      record {
        uses = λ r used out. (way.cone, has_cone u pending, both.0.uses r used out);
        writes = λ r wrote out. both.0.writes r wrote out;
        waits = λ r out. both.0.waits r out;
        goes_on = both.0.goes_on;
      }

  abbrev IsAlone : List (LooseTransition × Footprint) → OrderedState → Type 0
  IsAlone w t = RunsAlone moves all begin w t

  keep_off : (w : List (LooseTransition × Footprint)) (t : OrderedState) → IsAlone w t → ArePending t.0 → OthersKeepOff design t.0 members block
  keep_off w t alone pending p active none =
      let (n, at) = find_evaluation p 0 t.0.next_event t.0.active t.1.active active in
      let waits : IsWaiting class (without_held held t.0) (Process p) = (n, Evaluate p, found_there held n (Evaluate p) t.0.active at none, refl) in
      let (g, u, step) = stands.goes_on w t (Process p) alone refl waits in
      let keeps : Keeps g tt = stands.within w t u (Process p) g alone refl step in
      let (v, (entry, y, there, owner, leads), near) = goes_low class design held t u (Process p) g step in
      let (going, (d, acts)) = step_acts class design (without_held held t.0) entry y g there in
      let (turn, it, same) = has_turn t.0 p entry d y g owner acts in
      (turn, it, keeps_held t.0 p turn g pending same keeps)

  -- the step of an entry that takes no event of a member

  abbrev HasPrint : State → Entry → Type 0
  HasPrint u entry = (g : Footprint) × (footprint class design (without_held held u) entry ≡ Some g)

  has_print : (u : State) (entry : Entry) (y : Effect) → IsInOrder u → OthersKeepOff design u members block → TakesOther u members entry → loose_step class design u entry ≡ Some y → HasPrint u entry
  has_print u (Entry.Turn n) y order keep (p, at, none) step =
      let (turn, it, keeps) = keep p (active_at u n p order at) none in (
        turn_footprint class (without_held held u) p turn,
        ap (action_footprint class design (without_held held u)) (found_there held n (Evaluate p) u.active at none)
            ∙ ap (option_map (turn_footprint class (without_held held u) p)) (turn_same design held u p ∙ it),
      )
  has_print u (Update n) y order keep other step =
      let (going, (r, v, at, first, same)) = from_loose class design u (Update n) y step in
      (update_footprint class (without_held held u) r v, ap (action_footprint class design (without_held held u)) (found_there held n (Action.Update r v) u.active at refl))
  has_print u ActivateInactive y order keep other step = absurd other
  has_print u ActivateNba y order keep other step = absurd other
  has_print u ActivateMonitor y order keep other step = absurd other
  has_print u (Advance time) y order keep other step = absurd other

  takes_event : (u : State) (entry : Entry) → TakesOther u members entry → TakesEvent entry
  takes_event u (Entry.Turn n) other = tt
  takes_event u (Update n) other = tt
  takes_event u ActivateInactive other = other
  takes_event u ActivateNba other = other
  takes_event u ActivateMonitor other = other
  takes_event u (Advance time) other = other

  -- what is pending after it

  woken_pending : (u : State) (d : Deed) (y : Effect) (p r : ℕ) → Done u d y.state → ((q : ℕ) → contains (changed_registers (changes_by u d)) q ≡ true → contains way.touched q ≡ true) → contains members p ≡ true
      → Standing u p (block p) → IsActive y.state p → contains (block p).outputs r ≡ true → IsActive u p ⊎ contains way.cone r ≡ true
  woken_pending u d y p r done touched member (inl (one, continuation)) active out = inl (omega (arith, one))
  woken_pending u d y p r done touched member (inr (none, continuation)) active out =
      woken (wakes_process (changes_by u d) u.processes p) refl
    where
      left : evaluations_in p (without d.number u.active) ≤ evaluations_in p u.active
      left = fewer d.number p u.active

      woken : (is : Bool) → wakes_process (changes_by u d) u.processes p ≡ is → IsActive u p ⊎ contains way.cone r ≡ true
      woken true is =
          let by_inputs : matches_any (map (λ q. (Any, q)) (block p).inputs) (changes_by u d) ≡ true = ap (λ (x : Continuation). matches_any x.triggers (changes_by u d)) (sym continuation) ∙ is in
          let (q, change, input) = touched_by (changes_by u d) (block p).inputs by_inputs in
          inr (way.has_cone.woken p q r member input (touched q change) out)
      woken false is =
          let all_of : evaluations_in p y.state.active ≡ evaluations_in p (without d.number u.active) + one_where (wakes_process (changes_by u d) u.processes p) =
          ap (evaluations_in p) done.active ∙ evaluations-append p (without d.number u.active) (enumerate_from u.next_event (evaluations_made (changes_by u d) u.processes))
          ∙ ap (λ k. evaluations_in p (without d.number u.active) + k) (made_evaluations p u.next_event (changes_by u d) u.processes) in
          let zero_is : one_where (wakes_process (changes_by u d) u.processes p) ≡ 0 = ap one_where is in
          absurd (omega (arith, active, all_of, zero_is, left, none))

  pending_after : (u : State) (d : Deed) (y : Effect) → AreHeldMembers design u members block rank → ArePending u → Done u d y.state → ((q : ℕ) → contains (changed_registers (changes_by u d)) q ≡ true → contains way.touched q ≡ true) → ArePending y.state
  pending_after u d y is pending done touched p r member active out =
      either (woken_pending u d y p r done touched member (is.stands p member) active out)
    where
      either : IsActive u p ⊎ contains way.cone r ≡ true → contains way.cone r ≡ true
      either (inl before) = pending p r member before out
      either (inr there) = there

  -- where a way has come to: its steps, those held, and what is pending of them
  abbrev pub Stood : Effect → Effect → Type 0
  Stood e f =
      (w : List (LooseTransition × Footprint)) × (t : OrderedState) × IsRunOfMoves moves begin w t × NoneEnds moves.Ends w × (t.0 ≡ f.state) × AreHeldMembers design t.0 members block rank × ArePending t.0
      × (f.lines ≡ e.lines ++ printed_by_steps moves.prints w)

  alone_of : (w : List (LooseTransition × Footprint)) (t : OrderedState) → IsRunOfMoves moves begin w t → NoneEnds moves.Ends w → IsAlone w t
  alone_of w t run none = (run, all_among w, none)

  none_more : (w : List (LooseTransition × Footprint)) (a : LooseTransition) (g : Footprint) → NoneEnds moves.Ends w → (g.finishes ≡ true → ⊥) → NoneEnds moves.Ends (w ++ (a, g) ∷ [])
  none_more [] a g none free = (free, tt)
  none_more (x ∷ w) a g none free = (none.0, none_more w a g none.1 free)

  print_more : (w : List (LooseTransition × Footprint)) (a : LooseTransition) (g : Footprint) → printed_by_steps moves.prints (w ++ (a, g) ∷ []) ≡ printed_by_steps moves.prints w ++ g.lines
  print_more [] a g = append-none g.lines
  print_more (x ∷ w) a g = ap (λ ls. x.1.lines ++ ls) (print_more w a g) ∙ sym (append_assoc x.1.lines (printed_by_steps moves.prints w) g.lines)

  pub stood_first : (e : Effect) → e.state ≡ s → Stood e e
  stood_first e same =
      ([], begin, refl, tt, sym same, way.held, λ p r member active out. way.has_cone.pending.begins p r member active out, sym (append-none e.lines))

  not_both : (b : Bool) → b ≡ false → b ≡ true → ⊥
  not_both b is h = true≢false (sym h ∙ is)

  pub stood_on : (e f y : Effect) (entry : Entry) → Stood e f → TakesOther f.state members entry → loose_step class design f.state entry ≡ Some y → Stood e (joined f y)
  stood_on e f y entry (w, t, run, none, same, is, pending, lines) other step =
      let alone : IsAlone w t = alone_of w t run none in
      let keep : OthersKeepOff design t.0 members block = keep_off w t alone pending in
      let other' : TakesOther t.0 members entry = subst (λ z. TakesOther z members entry) (sym same) other in
      let step' : loose_step class design t.0 entry ≡ Some y = ap (λ z. loose_step class design z entry) same ∙ step in
      let (g, print) = has_print t.0 entry y t.1 keep other' step' in
      let next : OrderedState = (y.state, loose_step_keeps_order class design t.0 entry y t.1 step') in
      let move : IsHeldMove class design held t.0 g.owner g next.0 = (entry, y, step', print, refl, refl) in
      let keeps : Keeps g tt = stands.within w t next g.owner g alone refl move in
      let run' : IsRunOfMoves moves begin (w ++ (g.owner, g) ∷ []) next = runs_both OrderedState LooseTransition Footprint moves begin t next w ((g.owner, g) ∷ []) run (next, move, refl) in
      let (d, done, changes, printed_is) = held_deed class design held t.0 entry y g t.1 step' print in
      let touched : (q : ℕ) → contains (changed_registers (changes_by t.0 d)) q ≡ true → contains way.touched q ≡ true = λ q change. keeps.0.changes q (ap (λ cs. contains (changed_registers cs) q) changes ∙ change) in (
        w ++ (g.owner, g) ∷ [],
        next,
        run',
        none_more w g.owner g none (not_both g.finishes keeps.0.goes_on),
        refl,
        held_stays_held class design members block rank t.0 entry y t.1 is keep (takes_event t.0 entry other') step',
        pending_after t.0 d y is pending done touched,
        lines_on e f y (printed_by_steps moves.prints w) g.lines lines printed_is ∙ ap (λ ls. e.lines ++ ls) (sym (print_more w g.owner g)),
      )

  -- what is known there: the others keep off, what is pending has its outputs in the cone, and what the next of their steps changes passes

  pub stood_keeps : (e f : Effect) → Stood e f → OthersKeepOff design f.state members block
  stood_keeps e f (w, t, run, none, state, still, pending, lines) =
      subst (λ z. OthersKeepOff design z members block) state (keep_off w t (alone_of w t run none) pending)

  pub stood_cone : (e f : Effect) → Stood e f → HasCone f.state members block way.cone
  stood_cone e f (w, t, run, none, state, still, pending, lines) =
      subst (λ z. HasCone z members block way.cone) state (has_cone t.0 pending)

  step_passes : (w : List (LooseTransition × Footprint)) (t : OrderedState) → IsAlone w t → (entry : Entry) (y : Effect) (g : Footprint) → loose_step class design t.0 entry ≡ Some y
      → footprint class design (without_held held t.0) entry ≡ Some g → AllPass passes g.changes
  step_passes w t alone entry y g step print =
      let next : OrderedState = (y.state, loose_step_keeps_order class design t.0 entry y t.1 step) in
      let move : IsHeldMove class design held t.0 g.owner g next.0 = (entry, y, step, print, refl, refl) in
      let keeps : Keeps g tt = stands.within w t next g.owner g alone refl move in
      keeps.1

  pub turn_passes : (e f : Effect) (m p : ℕ) (turn : turns.Turn) → Stood e f → action_in f.state.active m ≡ Some (Evaluate p) → contains members p ≡ false → turn_of design f.state p ≡ Some turn
      → AllPass passes (changes_made f.state.store turn.writes)
  turn_passes e f m p turn (w, t, run, none, state, still, pending, lines) at other found =
      let at' : action_in t.0.active m ≡ Some (Evaluate p) = ap (λ (z : State). action_in z.active m) state ∙ at in
      let found' : turn_of design t.0 p ≡ Some turn = ap (λ (z : State). turn_of design z p) state ∙ found in
      let step : loose_step class design t.0 (Entry.Turn m) ≡ Some (turn_effect t.0 m p turn) = turn_step design t.0 m p turn still.goes_on at' found' in
      let print : footprint class design (without_held held t.0) (Entry.Turn m) ≡ Some (turn_footprint class (without_held held t.0) p turn) =
      ap (action_footprint class design (without_held held t.0)) (found_there held m (Evaluate p) t.0.active at' other)
      ∙ ap (option_map (turn_footprint class (without_held held t.0) p)) (turn_same design held t.0 p ∙ found') in
      let passed : AllPass passes (changes_made t.0.store turn.writes) =
      step_passes w t (alone_of w t run none) (Entry.Turn m) (turn_effect t.0 m p turn) (turn_footprint class (without_held held t.0) p turn) step print in
      subst (λ (z : State). AllPass passes (changes_made z.store turn.writes)) state passed

  pub update_passes : (e f : Effect) (m r : ℕ) (v : Vector) → Stood e f → action_in f.state.active m ≡ Some (Action.Update r v) → has_earlier_of_class class (class r) f.state.active m ≡ false
      → AllPass passes (changes_made f.state.store ((r, v) ∷ []))
  update_passes e f m r v (w, t, run, none, state, still, pending, lines) at first =
      let at' : action_in t.0.active m ≡ Some (Action.Update r v) = ap (λ (z : State). action_in z.active m) state ∙ at in
      let first' : has_earlier_of_class class (class r) t.0.active m ≡ false = ap (λ (z : State). has_earlier_of_class class (class r) z.active m) state ∙ first in
      let step : loose_step class design t.0 (Update m) ≡ Some (update_effect t.0 m r v) =
      to_loose class design t.0 (Update m) (update_effect t.0 m r v) (still.goes_on, (r, v, at', first', refl)) in
      let print : footprint class design (without_held held t.0) (Update m) ≡ Some (update_footprint class (without_held held t.0) r v) =
      ap (action_footprint class design (without_held held t.0)) (found_there held m (Action.Update r v) t.0.active at' refl) in
      let passed : AllPass passes (changes_made t.0.store ((r, v) ∷ [])) =
      step_passes w t (alone_of w t run none) (Update m) (update_effect t.0 m r v) (update_footprint class (without_held held t.0) r v) step print in
      subst (λ (z : State). AllPass passes (changes_made z.store ((r, v) ∷ []))) state passed

  -- a way

  stood_along : (entries : List Entry) (e d f : Effect) → Stood e d → IsWayOfOthers class design members d entries f → Stood e f
  stood_along [] e d f here same = subst (λ z. Stood e z) same here
  stood_along (entry ∷ entries) e d f here (g, other, step, later) = stood_along entries e (joined d g) f (stood_on e d g entry here other step) later

  stood : (e f : Effect) (entries : List Entry) → e.state ≡ s → IsWayOfOthers class design members e entries f → Stood e f
  stood e f entries same is = stood_along entries e e f (stood_first e same) is

  pub keep_off_at : (e f : Effect) (entries : List Entry) → e.state ≡ s → IsWayOfOthers class design members e entries f → OthersKeepOff design f.state members block
  keep_off_at e f entries same is =
      let (w, t, run, none, state, still, pending, lines) = stood e f entries same is in
      subst (λ z. OthersKeepOff design z members block) state (keep_off w t (alone_of w t run none) pending)

  pub way_order : (e f : Effect) (entries : List Entry) → e.state ≡ s → IsWayOfOthers class design members e entries f → IsInOrder f.state
  way_order e f entries same is =
      let (w, t, run, none, state, still, pending, lines) = stood e f entries same is in
      subst IsInOrder state t.1

  -- a whole way leads to what is alike without what is held, and prints the same

  abbrev pub EndsLike : Effect → Effect → Type 0
  EndsLike e f = AlikeIn class (without_held held f.state) (without_held held way.last.0) × (f.lines ≡ e.lines ++ printed_by_steps moves.prints way.steps)

  the_way : (w v : List (LooseTransition × Footprint)) → Contains (w ∷ []) v → v ≡ w
  the_way w v (k, less, is) = at_place k less is
    where
      at_place : (k : ℕ) → k < 1 → slice_index_or (w ∷ []) k v ≡ v → v ≡ w
      at_place zero less is = sym is
      at_place (suc k) less is = absurd (omega (arith, less))

  pub ends_like : (e f : Effect) (entries : List Entry) → e.state ≡ s → IsWayOfOthers class design members e entries f → NobodyWaits class (without_held held f.state) → EndsLike e f
  ends_like e f entries same is nobody =
      let (w, t, run, none, state, still, pending, lines) = stood e f entries same is in
      let (v, u, there, alone, near, prints) = stands.whole w t (alone_of w t run none) (λ a own waits. nobody a (subst (λ z. IsWaiting class (without_held held z) a) state waits)) in
      let one : v ≡ way.steps = the_way way.steps v there in
      let near' : AlikeIn class (without_held held u.0) (without_held held way.last.0) =
      runs_once OrderedState LooseTransition Footprint moves (held_steps_are_moves class design held) begin u way.last way.steps (subst (λ x. IsRunOfMoves moves begin x u) one alone.0) way.runs in (
        subst (λ z. AlikeIn class (without_held held z) (without_held held way.last.0)) state (states_in-trans class (without_held held t.0) (without_held held u.0) (without_held held way.last.0) near near'),
        lines ∙ ap (λ ls. e.lines ++ ls) (sym prints ∙ ap (printed_by_steps moves.prints) one),
      )
