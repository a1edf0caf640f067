-- Whichever events come first, the sleepers sleep through it: each run takes the same entries as one from where they wait for nothing.
use Rattle.std.proofs.Common.{◌≡◌, ℕ, ◌≤◌, Bool, true, false, ◌||◌, List, [], ◌∷◌, inl, inr, map, Some, refl, sym, ap, subst, ◌∙◌, ◌==◌, arith, eqb-true}
use Rattle.std.specs.List.{All}
use Rattle.std.proofs.lemmas.List.Elements.{All-nil, All-head, All-tail}
use Rattle.std.proofs.lemmas.Option.{option_and_then_some}
use Rattle.logic4.specs.Vector.{Vector}
use Rattle.model.specs.declared.entry.Entry.{Entry}
use Rattle.model.specs.declared.entry.Entry.TheVariants.{Update, ActivateInactive, ActivateNba, ActivateMonitor, Advance}
use Rattle.model.specs.declared.end.Limits.{Limits}
use Rattle.model.specs.declared.end.End.{End}
use Rattle.model.specs.Design.{Design}
use Rattle.model.specs.Expressions.{value_of}
use Rattle.model.specs.Turns.{contains, short_turn}
use Rattle.model.specs.Turns as turns
use Rattle.model.specs.States.{Action, Evaluate, Event, Continuation, State, change_all, taking, turned, updated, without}
use Rattle.model.specs.Runs.{Effect, silent, action_in, HasLongTurn, remainder_of, joined, turn_of, turn_effect, update_effect}
use Rattle.model.specs.Laws.{evaluations_in}
use Rattle.model.specs.Texts.{EndsHere}
use Rattle.model.proofs.TurnLaws.{short_turn_found}
use Rattle.orders.specs.Alike.{IsInOrder}
use Rattle.orders.specs.Apart.{AgreeOn, all_given, written_by}
use Rattle.orders.proofs.EventLists.{find_evaluation}
use Rattle.orders.proofs.GoingOn.{goes_on}
use Rattle.orders.proofs.SearchLaws.{then_some}
use Rattle.phases.specs.Phase.{Block, IsTurnPending, IsOutput, TakesEvent}
use Rattle.phases.proofs.Changes.{Changed, changed}
use Rattle.phases.proofs.Events.{active_at, AllChanged, all_changed}
use Rattle.loose.specs.Loose.{updates_of_class, has_earlier_of_class, loose_step, loose_run_from}
use Rattle.loose.proofs.ClassLists.{find_first, first_taken}
use Rattle.loose.proofs.LooseSteps.{from_loose, loose_step_keeps_order}
use Rattle.loosephases.specs.LoosePhase.{EndsPhaseLoosely}
use Rattle.loosephases.specs.Held.{AreHeldMembers, KeepsOffHeld, OthersKeepOff}
use Rattle.loosephases.proofs.UpdatesTaken.{register_taken}
use Rattle.loosephases.proofs.LoosePhaseSteps.{IsFirstOfIts, is_updated}
use Rattle.loosephases.proofs.LoosePhaseRuns.{takes_event}
use Rattle.loosephases.proofs.PhaseEnds.{pending_at}
use Rattle.loosephases.proofs.Beside.{Together, no_out}
use Rattle.loosephases.proofs.HeldTurns.{made_keeps, same_turn}
use Rattle.loosephases.proofs.HeldRuns.{together_same, Moves, entry_moves, no_long_turn, Passes, passes_more}
use Rattle.traces.specs.Traces.{IsRunOfMoves}
use Rattle.footprints.specs.Footprints.{RegisterChange, changes_made}
use Rattle.footprints.specs.Moves.{IsWaiting}
use Rattle.footprints.proofs.Steps.{some_same}
use Rattle.footprints.proofs.ValueChanges.{same_changes}
use Rattle.certificates.proofs.OneEvent.{HasOneEvent}
use Rattle.heldmoves.specs.HeldMoves.{held_moves}
use Rattle.heldways.specs.Passing.{AllPass, IsInCone, put_to_sleep}
use Rattle.heldways.specs.HeldWays.{HasHeldWay}
use Rattle.heldways.proofs.OneEventEach.{asleep_has_one}
use Rattle.heldways.proofs.WaysKept.{HasCertifiedWay, Stood, stood_first, stood_on, stood_keeps, stood_cone, turn_passes, update_passes}
use Rattle.heldways.proofs.Asleep.{WakeNone, put_effect_to_sleep, turn_asleep, turn_steps_asleep, update_steps_asleep}
use Rattle.heldways.proofs.Passed.{SleepSince, wake_none, HavePassedSince, passed_first, passed_other, passed_own}
use Rattle.heldways.proofs.AsleepWays.{without_both, no_sleeper, turned_since, updated_since, asleep_state, way_asleep}

-- what a turn leaves of the time and the values
turn_leaves_time : (t : State) (n p : ℕ) (turn : turns.Turn) → (turned t n p turn).time ≡ t.time
turn_leaves_time t n p turn =
    let x : State = change_all (taking n t) turn.writes in
    let all : AllChanged (taking n t) turn.writes x = all_changed (taking n t) turn.writes in
    let (time, store, processes, active) = made_keeps x p turn in
    time ∙ all.time

turn_gives : (t : State) (n p : ℕ) (turn : turns.Turn) → (turned t n p turn).store ≡ all_given t.store turn.writes
turn_gives t n p turn =
    let x : State = change_all (taking n t) turn.writes in
    let all : AllChanged (taking n t) turn.writes x = all_changed (taking n t) turn.writes in
    let (time, store, processes, active) = made_keeps x p turn in
    store ∙ all.store

one_written : (r q : ℕ) (v : Vector) → contains (map (λ (w : ℕ × Vector). w.0) ((r, v) ∷ [])) q ≡ true → r ≡ q
one_written r q v is = found (r == q) refl is
  where
    found : (same : Bool) → (r == q) ≡ same → (same || false) ≡ true → r ≡ q
    found true same h = eqb-true r q same
    found false same h = cc

not_both : (b : Bool) → b ≡ true → b ≡ false → ⊥
not_both true h g = cc
not_both false h g = cc

module _ (class : ℕ → ℕ) (design : Design) (members : List ℕ) (block : ℕ → Block) (rank : ℕ → ℕ) (s : State) (events : (p : ℕ) → HasOneEvent s p) (way : HasHeldWay class design members block rank s) where
  -- where it begins, the sleepers waiting for nothing
  abbrev begin : State
  begin = put_to_sleep way.sleepers s

  since_first : SleepSince s way.sleepers s
  since_first q is = (refl, way.sleep.idle q is)

  pub events_asleep : (p : ℕ) → HasOneEvent begin p
  events_asleep p = asleep_has_one way.sleepers s p (events p)

  abbrev SleepingRun : Type 0
  SleepingRun =
      IsRunOfMoves (held_moves class design (contains members)) (asleep_state way.sleepers (s, way.order)) way.steps (asleep_state way.sleepers way.last) × SleepSince s way.sleepers way.last.0

  sleeping_run : SleepingRun
  sleeping_run = way_asleep class design members way.sleepers way.passes s way.sleep way.steps (s, way.order) way.last since_first way.steps_pass way.runs

  pub certified_asleep : HasCertifiedWay class design members block rank way.passes begin
  certified_asleep =
      record {
        order = way.order;
        held = way.held;
        steps = way.steps;
        last = asleep_state way.sleepers way.last;
        runs = sleeping_run.0;
        certified = way.certified;
        over = λ a waits. way.over a (subst (λ (z : State). IsWaiting class z a) (without_both members way.sleepers way.last.0 (λ q is. (sleeping_run.1 q is).1)) waits);
        touched = way.touched;
        cone = way.cone;
        has_cone = record { pending = way.has_cone.pending; woken = way.has_cone.woken };
        keep = way.keep;
        steps_pass = way.steps_pass;
      }

  -- a way of the others from there has come to an effect
  abbrev IsStood : Effect → Type 0
  IsStood d = Stood class design members block rank way.passes begin events_asleep certified_asleep (silent begin) d

  -- a state that a run has come to, and an effect that a way of the others has come to beside it
  abbrev pub Along : State → Effect → Type 0
  Along t d =
      record {
        order : IsInOrder t;
        since : SleepSince s way.sleepers t;
        held : AreHeldMembers design (put_to_sleep way.sleepers t) members block rank;
        stood : IsStood d;
        way_order : IsInOrder d.state;
        together : Together class design begin members block (put_to_sleep way.sleepers t) d.state;
        passed : HavePassedSince design members block way.cone way.passes s t;
      }

  pub along_first : Along s (silent begin)
  along_first =
      record {
        order = way.order;
        since = since_first;
        held = way.held;
        stood = stood_first class design members block rank way.passes begin events_asleep certified_asleep (silent begin) refl;
        way_order = way.order;
        together = together_same class design members block rank begin way.held;
        passed = passed_first design members block way.cone way.passes s way.is_passing way.outputs_pass;
      }

  keeps_at : (t : State) (d : Effect) → Along t d → OthersKeepOff design d.state members block
  keeps_at t d h = stood_keeps class design members block rank way.passes begin events_asleep certified_asleep (silent begin) d h.stood

  -- the way goes on beside an entry

  abbrev GoesBeside : Effect → Type 0
  GoesBeside f =
      (d : Effect) × IsStood d × IsInOrder d.state × Together class design begin members block f.state d.state

  goes_beside : (d f : Effect) → IsStood d → IsInOrder d.state → Moves class design begin members block d.state f → GoesBeside f
  goes_beside d f stood order (inl (lines, together)) = (d, stood, order, together)
  goes_beside d f stood order (inr (other, z, takes, at_z, lines, together)) = (
    joined d z,
    stood_on class design members block rank way.passes begin events_asleep certified_asleep (silent begin) d z other stood takes at_z,
    loose_step_keeps_order class design d.state other z order at_z,
    together,
  )

  -- what an entry leads to, where its changes pass
  abbrev GoesOn : State → Entry → Effect → Type 0
  GoesOn t entry y =
      (loose_step class design (put_to_sleep way.sleepers t) entry ≡ Some (put_effect_to_sleep way.sleepers y)) × ((d : Effect) × Along y.state d)

  goes_on_so : (t : State) (d : Effect) (entry : Entry) (y : Effect) → Along t d → TakesEvent entry → loose_step class design t entry ≡ Some y
      → loose_step class design (put_to_sleep way.sleepers t) entry ≡ Some (put_effect_to_sleep way.sleepers y) → SleepSince s way.sleepers y.state
      → HavePassedSince design members block way.cone way.passes s y.state → GoesOn t entry y
  goes_on_so t d entry y h takes step step' since passed =
      let (held', moves) = entry_moves class design begin members block rank (put_to_sleep way.sleepers t) d.state entry (put_effect_to_sleep way.sleepers y) h.order h.way_order h.held (keeps_at t d h) h.together takes step' in
      let (d', stood', order', together') = goes_beside d (put_effect_to_sleep way.sleepers y) h.stood h.way_order moves in (
        step',
        (
          d',
          record { order = loose_step_keeps_order class design t entry y h.order step; since = since; held = held'; stood = stood'; way_order = order'; together = together'; passed = passed },
        ),
      )

  -- the changes of a turn pass

  in_cone : (t : State) (d : Effect) (n p : ℕ) → Along t d → action_in t.active n ≡ Some (Evaluate p) → contains members p ≡ true → IsInCone way.cone (block p)
  unfolding certified_asleep
  in_cone t d n p h at member r out =
      h.together.beside.pending way.cone p r (stood_cone class design members block rank way.passes begin events_asleep certified_asleep (silent begin) d h.stood) member (active_at t n p h.order at) out

  own_turn : (t : State) (d : Effect) (n p : ℕ) (turn : turns.Turn) → Along t d → action_in t.active n ≡ Some (Evaluate p) → contains members p ≡ true → turn_of design t p ≡ Some turn → short_turn design p (block p).rest t.store t.time ≡ Some turn
  own_turn t d n p turn h at member found =
      let pending : IsTurnPending (put_to_sleep way.sleepers t) p (block p) = pending_at (put_to_sleep way.sleepers t) p (block p) (active_at t n p h.order at) (h.held.stands p member) in
      ap (λ (x : Continuation). short_turn design p x.remainder t.store t.time) (sym pending.1) ∙ turn_asleep design way.sleepers t p ∙ found

  -- of a turn: its changes pass, and so does all that may change behind it
  abbrev TurnPasses : State → ℕ → ℕ → turns.Turn → Type 0
  TurnPasses t n p turn =
      AllPass way.passes (changes_made t.store turn.writes) × HavePassedSince design members block way.cone way.passes s (turned t n p turn)

  member_passes : (t : State) (d : Effect) (n p : ℕ) (turn : turns.Turn) → Along t d → action_in t.active n ≡ Some (Evaluate p) → contains members p ≡ true → turn_of design t p ≡ Some turn → TurnPasses t n p turn
  member_passes t d n p turn h at member found =
      let own : short_turn design p (block p).rest t.store t.time ≡ Some turn = own_turn t d n p turn h at member found in
      let all : AllPass way.passes (changes_made t.store turn.writes) =
      h.passed.calm p member (in_cone t d n p h at member) t.store turn refl (λ r input. way.is_passing.stays r (value_of t.store r)) own in
      (all, passed_own design members block way.cone way.passes s t (turned t n p turn) p turn way.is_passing way.outputs_pass member h.held.blocks h.held.single (turn_leaves_time t n p turn) (turn_gives t n p turn) own all h.passed)

  other_passes : (t : State) (d : Effect) (n p : ℕ) (turn : turns.Turn) → Along t d → action_in t.active n ≡ Some (Evaluate p) → contains members p ≡ false → turn_of design t p ≡ Some turn → TurnPasses t n p turn
  other_passes t d n p turn h at none found =
      let some : 1 ≤ evaluations_in p d.state.active = omega (arith, active_at t n p h.order at, (h.together.beside.others p none).1) in
      let (m, at_m) = find_evaluation p 0 d.state.next_event d.state.active h.way_order.active some in
      let (turn', at_d, keeps) = keeps_at t d h p some none in
      let here : turn_of design (put_to_sleep way.sleepers t) p ≡ Some turn' = same_turn class design members block (put_to_sleep way.sleepers t) d.state p turn' h.together.beside none keeps at_d in
      let one : turn' ≡ turn = some_same turn' turn (sym here ∙ turn_asleep design way.sleepers t p ∙ found) in
      let keeps' : KeepsOffHeld d.state members block turn = subst (λ (x : turns.Turn). KeepsOffHeld d.state members block x) one keeps in
      let at_d' : turn_of design d.state p ≡ Some turn = at_d ∙ ap (λ (x : turns.Turn). Some x) one in
      let there : AllPass way.passes (changes_made d.state.store turn.writes) =
      turn_passes class design members block rank way.passes begin events_asleep certified_asleep (silent begin) d m p turn h.stood at_m none at_d' in
      let agree : AgreeOn (written_by turn) t.store d.state.store = λ r wrote. h.together.beside.plain r (λ out. keeps'.writes r wrote out) in
      let same : changes_made t.store turn.writes ≡ changes_made d.state.store turn.writes = same_changes t.store d.state.store turn.writes h.together.beside.registers agree in
      let all : AllPass way.passes (changes_made t.store turn.writes) = subst (λ (cs : List RegisterChange). AllPass way.passes cs) (sym same) there in (
        all,
        passed_other design members block way.cone way.passes s t (turned t n p turn) turn.writes way.is_passing h.held.blocks (turn_leaves_time t n p turn) (turn_gives t n p turn) all
            (λ q r member wrote. no_out members block q r (contains (block q).outputs r) refl member (λ out. keeps'.writes r wrote out)) h.passed,
      )

  turn_passes_here : (t : State) (d : Effect) (n p : ℕ) (turn : turns.Turn) (is : Bool) → contains members p ≡ is → Along t d → action_in t.active n ≡ Some (Evaluate p) → turn_of design t p ≡ Some turn → TurnPasses t n p turn
  turn_passes_here t d n p turn true is h at found = member_passes t d n p turn h at is found
  turn_passes_here t d n p turn false is h at found = other_passes t d n p turn h at is found

  -- and those of an update

  no_output : (t : State) (d : Effect) (n r : ℕ) (v : Vector) → Along t d → action_in t.active n ≡ Some (Action.Update r v) → has_earlier_of_class class (class r) t.active n ≡ false → IsOutput members block r → ⊥
  no_output t d n r v h at earliest out =
      let first : IsFirstOfIts t n r v = λ q. register_taken class q n r 0 t.next_event v t.active h.order.active at earliest in
      not_both (contains (block out.0).outputs r) out.2 (h.held.updates r (is_updated t n r v first) out.0 out.1)

  abbrev UpdatePasses : State → ℕ → ℕ → Vector → Type 0
  UpdatePasses t n r v =
      AllPass way.passes (changes_made t.store ((r, v) ∷ [])) × HavePassedSince design members block way.cone way.passes s (updated t n r v)

  update_passes_here : (t : State) (d : Effect) (n r : ℕ) (v : Vector) → Along t d → action_in t.active n ≡ Some (Action.Update r v) → has_earlier_of_class class (class r) t.active n ≡ false → UpdatePasses t n r v
  update_passes_here t d n r v h at earliest =
      let none : IsOutput members block r → ⊥ = no_output t d n r v h at earliest in
      let listed : updates_of_class class (class r) d.state.active ≡ (r, v) ∷ updates_of_class class (class r) (without n t.active) =
      sym (h.together.beside.updates (class r)) ∙ first_taken class (class r) n r 0 t.next_event v t.active refl h.order.active at earliest in
      let (m, at_m, first_m) = find_first class (class r) r 0 d.state.next_event v d.state.active (updates_of_class class (class r) (without n t.active)) h.way_order.active listed in
      let there : AllPass way.passes (changes_made d.state.store ((r, v) ∷ [])) =
      update_passes class design members block rank way.passes begin events_asleep certified_asleep (silent begin) d m r v h.stood at_m first_m in
      let plain : (q : ℕ) → contains (map (λ (w : ℕ × Vector). w.0) ((r, v) ∷ [])) q ≡ true → IsOutput members block q → ⊥ =
      λ q wrote out. none (subst (λ k. IsOutput members block k) (sym (one_written r q v wrote)) out) in
      let agree : AgreeOn (map (λ (w : ℕ × Vector). w.0) ((r, v) ∷ [])) t.store d.state.store = λ q wrote. h.together.beside.plain q (λ out. plain q wrote out) in
      let same : changes_made t.store ((r, v) ∷ []) ≡ changes_made d.state.store ((r, v) ∷ []) = same_changes t.store d.state.store ((r, v) ∷ []) h.together.beside.registers agree in
      let all : AllPass way.passes (changes_made t.store ((r, v) ∷ [])) = subst (λ (cs : List RegisterChange). AllPass way.passes cs) (sym same) there in
      let c : Changed (taking n t) r v (updated t n r v) = changed (taking n t) r v in (
        all,
        passed_other design members block way.cone way.passes s t (updated t n r v) ((r, v) ∷ []) way.is_passing h.held.blocks c.time c.store all
            (λ p q member wrote. no_out members block p q (contains (block p).outputs q) refl member (λ out. plain q wrote out)) h.passed,
      )

  -- an entry

  turn_goes_on : (t : State) (d : Effect) (n p : ℕ) (turn : turns.Turn) → Along t d → action_in t.active n ≡ Some (Evaluate p) → turn_of design t p ≡ Some turn → t.finished ≡ false
      → loose_step class design t (Entry.Turn n) ≡ Some (turn_effect t n p turn) → GoesOn t (Entry.Turn n) (turn_effect t n p turn)
  turn_goes_on t d n p turn h at found going step =
      let (all, passed) = turn_passes_here t d n p turn (contains members p) refl h at found in
      let none : WakeNone way.sleepers (changes_made t.store turn.writes) t.processes = wake_none s t members way.sleepers way.passes (changes_made t.store turn.writes) way.sleep h.since all in
      let other : contains way.sleepers p ≡ false = no_sleeper s t way.sleepers n p h.order h.since at in
      goes_on_so t d (Entry.Turn n) (turn_effect t n p turn) h tt step (turn_steps_asleep class design way.sleepers t n p turn going at found other none) (turned_since s t way.sleepers n p turn h.order h.since at other none) passed

  update_goes_on : (t : State) (d : Effect) (n r : ℕ) (v : Vector) → Along t d → action_in t.active n ≡ Some (Action.Update r v) → has_earlier_of_class class (class r) t.active n ≡ false → t.finished ≡ false
      → loose_step class design t (Update n) ≡ Some (update_effect t n r v) → GoesOn t (Update n) (update_effect t n r v)
  update_goes_on t d n r v h at earliest going step =
      let (all, passed) = update_passes_here t d n r v h at earliest in
      let none : WakeNone way.sleepers (changes_made t.store ((r, v) ∷ [])) t.processes = wake_none s t members way.sleepers way.passes (changes_made t.store ((r, v) ∷ [])) way.sleep h.since all in
      goes_on_so t d (Update n) (update_effect t n r v) h tt step (update_steps_asleep class design way.sleepers t n r v going at earliest none) (updated_since s t way.sleepers n r v h.order h.since at none) passed

  entry_goes_on : (t : State) (d : Effect) (entry : Entry) (y : Effect) → Along t d → TakesEvent entry → loose_step class design t entry ≡ Some y → GoesOn t entry y
  entry_goes_on t d (Entry.Turn n) y h takes step =
      let (going, (p, turn, at, exact, short, same)) = from_loose class design t (Entry.Turn n) y step in
      let found : turn_of design t p ≡ Some turn = short_turn_found design p (remainder_of t p) t.store t.time turn exact short in
      subst (λ (x : Effect). GoesOn t (Entry.Turn n) x) (sym same) (turn_goes_on t d n p turn h at found going (step ∙ ap (λ (x : Effect). Some x) same))
  entry_goes_on t d (Update n) y h takes step =
      let (going, (r, v, at, earliest, same)) = from_loose class design t (Update n) y step in
      subst (λ (x : Effect). GoesOn t (Update n) x) (sym same) (update_goes_on t d n r v h at earliest going (step ∙ ap (λ (x : Effect). Some x) same))
  entry_goes_on t d ActivateInactive y h takes step = absurd takes
  entry_goes_on t d ActivateNba y h takes step = absurd takes
  entry_goes_on t d ActivateMonitor y h takes step = absurd takes
  entry_goes_on t d (Advance time) y h takes step = absurd takes

  -- and a run

  abbrev RunsAsleep : Effect → List Entry → Effect → Type 0
  RunsAsleep e entries f =
      (loose_run_from class design (put_effect_to_sleep way.sleepers e) entries ≡ Some (put_effect_to_sleep way.sleepers f)) × SleepSince s way.sleepers f.state

  runs_asleep : (entries : List Entry) (e f d : Effect) → Along e.state d → All TakesEvent entries → loose_run_from class design e entries ≡ Some f → RunsAsleep e entries f
  runs_asleep [] e f d h takes is =
      let one : e ≡ f = some_same e f is in
      (ap (λ (x : Effect). Some (put_effect_to_sleep way.sleepers x)) one, subst (λ (x : Effect). SleepSince s way.sleepers x.state) one h.since)
  runs_asleep (entry ∷ entries) e f d h takes is =
      option_and_then_some (λ y. loose_run_from class design (joined e y) entries) (loose_step class design e.state entry) f is
      (λ y at_y later.
      let (step', (d', h')) = entry_goes_on e.state d entry y h (All-head TakesEvent entry entries takes) at_y in
      let (run, since) = runs_asleep entries (joined e y) f d' h' (All-tail TakesEvent entry entries takes) later in (
        then_some (λ y. loose_run_from class design (joined (put_effect_to_sleep way.sleepers e) y) entries) (loose_step class design (put_to_sleep way.sleepers e.state) entry) (put_effect_to_sleep way.sleepers y)
            (put_effect_to_sleep way.sleepers f) step' run,
        since,
      ))

  -- to where none is active
  pub ends_asleep : (e f : Effect) (entries : List Entry) → e.state ≡ s → EndsPhaseLoosely class design e entries f
      → EndsPhaseLoosely class design (put_effect_to_sleep way.sleepers e) entries (put_effect_to_sleep way.sleepers f) × SleepSince s way.sleepers f.state
  ends_asleep e f entries same (takes, run, over) =
      let (run', since) = runs_asleep entries e f (silent begin) (subst (λ (z : State). Along z (silent begin)) (sym same) along_first) takes run in
      ((takes, run', over), since)

  -- each run to an end comes there

  no_long : (t : State) (d : Effect) (p : ℕ) → Along t d → HasLongTurn design t p → ⊥
  no_long t d p h (n, at, long) =
      no_long_turn class design begin members block rank (put_to_sleep way.sleepers t) d.state p (contains members p) refl h.order h.held (keeps_at t d h) h.together (n, at, turn_asleep design way.sleepers t p ∙ long)

  passes_there : (limits : Limits) (es : List Event) (entries : List Entry) (e d g : Effect) (end : End) → e.state.active ≡ es → Along e.state d → loose_run_from class design e entries ≡ Some g → EndsHere design limits g end
      → Passes class design e entries g
  passes_there limits [] entries e d g end active h is ends = ([], entries, e, refl, (All-nil TakesEvent, refl, active), is)
  passes_there limits (x ∷ xs) [] e d g end active h is ends =
      let same : e ≡ g = some_same e g is in
      let ends' : EndsHere design limits e end = subst (λ (z : Effect). EndsHere design limits z end) (sym same) ends in
      absurd (goes_on design limits e.state x xs 0 end active h.held.goes_on (λ p long. no_long e.state d p h long) ends'.0 ends'.1 ends'.2)
  passes_there limits (x ∷ xs) (entry ∷ entries) e d g end active h is ends =
      option_and_then_some (λ y. loose_run_from class design (joined e y) entries) (loose_step class design e.state entry) g is
      (λ y at_y later.
      let takes : TakesEvent entry = takes_event class design e.state x xs entry y active (from_loose class design e.state entry y at_y).1 in
      let (step', (d', h')) = entry_goes_on e.state d entry y h takes at_y in
      passes_more class design e y g entry entries takes at_y (passes_there limits y.state.active entries (joined e y) d' g end refl h' later ends))

  pub held_is_prefix_here : (limits : Limits) (entries : List Entry) (g : Effect) (end : End) → loose_run_from class design (silent s) entries ≡ Some g → EndsHere design limits g end → Passes class design (silent s) entries g
  held_is_prefix_here limits entries g end run ends = passes_there limits s.active entries (silent s) (silent begin) g end refl along_first run ends
