-- What stands for all who wait covers what leads on.
use Rattle.std.proofs.Common.{◌≡◌, ◌≢◌, ◌⊎◌, ℕ, ◌<◌, Bool, true, false, not, ◌&&◌, ◌||◌, List, [], ◌∷◌, ◌++◌, length, Option, Some, None, refl, sym, ap, subst, ◌∙◌, inl, inr, arith, append-nil, append_assoc}
use Rattle.std.specs.Prelude.{option_and_then}
use Rattle.std.specs.List.{Any, Contains}
use Rattle.std.proofs.lemmas.Option.{option_and_then_some}
use Rattle.model.specs.declared.entry.Entry.{Entry}
use Rattle.model.specs.declared.entry.Entry.TheVariants.{Turn, Update, ActivateInactive, ActivateNba, ActivateMonitor, Advance}
use Rattle.model.specs.declared.end.Limits.{Limits}
use Rattle.model.specs.declared.end.Why.TheVariants.{Finish, Until, Entries, TooLong, Time, Memory}
use Rattle.model.specs.declared.end.End.{End}
use Rattle.model.specs.declared.end.End.TheVariants.{Quiet, Running, Stopped}
use Rattle.model.specs.Design.{Design}
use Rattle.model.specs.States.{Action, Evaluate, Event, State}
use Rattle.model.specs.Runs.{Effect, action_in, has_any, any_of, turn_of, joined, silent, EndsIn, HasLongTurn, IsPastLimit}
use Rattle.model.specs.Texts.{EndsHere}
use Rattle.orders.specs.Alike.{IsInOrder}
use Rattle.loose.specs.declared.transition.LooseTransition.{LooseTransition}
use Rattle.loose.specs.declared.transition.LooseTransition.TheVariants.{Process, FirstOf, Change}
use Rattle.loose.specs.Loose.{AlikeIn, loose_step}
use Rattle.loose.proofs.ClassStates.{states_in-same, states_in-trans}
use Rattle.traces.specs.Traces.{Moves, AreMoves, IsRunOfMoves, printed_by_steps, NoneEnds, AreAmong}
use Rattle.traces.specs.StandsFor.{RunsAlone, StandsFor}
use Rattle.traces.proofs.RunLaws.{runs_both}
use Rattle.traces.proofs.PartLists.{printed_both}
use Rattle.traces.proofs.LargerSets.{larger_sets}
use Rattle.footprints.specs.Footprints.{Footprint}
use Rattle.footprints.specs.Moves.{OrderedState, IsMove, IsWaiting, loose_moves}
use Rattle.footprints.proofs.AlikeFootprints.{footprint_tells}
use Rattle.footprints.proofs.Steps.{loose_parts, step_acts, Acts, Matches, acts_match}
use Rattle.footprints.proofs.Deeds.{Deed, turned_is_done, updated_is_done}
use Rattle.footprints.proofs.LooseMoves.{loose_steps_are_moves}
use Rattle.certificates.specs.Notes.{NoteView}
use Rattle.certificates.proofs.Tests.{is_or_not, never_true}
use Rattle.looseruns.specs.LooseMoves.{entry_for, move, moves_from}
use Rattle.looseruns.specs.LooseCover.{LeadToOneLooseNode}
use Rattle.looseruns.specs.ObservedEnding.{LeadsToFinish}
use Rattle.certifiedruns.specs.CertifiedCover.{actors_of}
use Rattle.certifiedruns.proofs.Covering.{ChangesFirst, divided, lead_through, none_changed, are_run, has_way, are_timely}
use Rattle.looseparts.specs.StandTogether.{concern, IsTold, StandTogether}
use Rattle.looseparts.specs.PartLaws.{StandingCovers, NoEndsCover}

-- where something is active, a run doesn't end but by a turn that is too long

none_if_quiet : (a b c d e : Bool) → not (any_of (a ∷ b ∷ c ∷ d ∷ e ∷ [])) ≡ true → a ≡ false
none_if_quiet true b c d e h = cc
none_if_quiet false b c d e h = refl

none_if_idle : (a b c d e : Bool) → (not (any_of (a ∷ b ∷ c ∷ d ∷ [])) && e) ≡ true → a ≡ false
none_if_idle true b c d e h = cc
none_if_idle false b c d e h = refl

none_past : (s : State) (o : Option ℕ) → has_any s.active ≡ true → IsPastLimit s o → ⊥
none_past s None some past = past
none_past s (Some until) some past =
    never_true (has_any s.active) some (none_if_idle (has_any s.active) (has_any s.inactive) (has_any s.nonblocking) (has_any s.monitor) (has_any s.future_inactive || has_any s.future_nonblocking) past.0)

some_active : (n : ℕ) (a : Action) (events : List Event) → action_in events n ≡ Some a → has_any events ≡ true
some_active n a [] is = cc
some_active n a (e ∷ events) is = refl

contains_nothing : {X : Type 0} (x : X) → Contains [] x → ⊥
contains_nothing {X} x (k, less, at) = omega arith

any_there : {X : Type 0} (P : X → Type 0) (xs : List X) (x : X) → Contains xs x → P x → Any P xs
any_there {X} P xs x (k, less, at) h = (k, x, less, at, h)

pub none_both : {L F : Type 0} (Ends : F → Type 0) (x y : List (L × F)) → NoneEnds Ends x → NoneEnds Ends y → NoneEnds Ends (x ++ y)
none_both Ends [] y none none' = none'
none_both Ends (s ∷ x) y (free, none) none' = (free, none_both Ends x y none none')

everybody : LooseTransition → Bool
everybody a = true

everyone : (w : List (LooseTransition × Footprint)) → AreAmong (λ a. everybody a ≡ true) w
unfolding everybody
everyone [] = tt
everyone (x ∷ w) = (refl, everyone w)

module _ (class : ℕ → ℕ) (design : Design) where
  abbrev moves : Moves OrderedState LooseTransition Footprint
  moves = loose_moves class design

  laws : AreMoves moves
  laws = loose_steps_are_moves class design

  -- who steps has an event, and the run isn't finished
  pub stepping : (s t : OrderedState) (a : LooseTransition) (f : Footprint) → IsMove class design s.0 a f t.0 → (has_any s.0.active ≡ true) × (s.0.finished ≡ false)
  stepping s t a f (entry, x, step, owner, leads) =
      let (going, (d, acts)) = step_acts class design s.0 entry x f step in
      let match : Matches class s.0 d x f = acts_match class design s.0 entry d x f acts in
      let (action, is, own) = match.active in
      (some_active d.number action s.0.active is, going)

  -- a process that steps has a short turn
  short_if : (s : State) (p : ℕ) (entry : Entry) (x : Effect) (f : Footprint) (d : Deed) → Acts class design s entry d x f → f.owner ≡ Process p → turn_of design s p ≡ None → ⊥
  short_if s p (Turn n) x f d (q, t, is, found, same_d, same_x, same_f) owner long =
      let own : Process q ≡ Process p = sym (ap (λ (g : Footprint). g.owner) same_f) ∙ owner in
      let same : q ≡ p = cc in
      let there : turn_of design s p ≡ Some t = ap (turn_of design s) (sym same) ∙ found in
      cc
  short_if s p (Update n) x f d (r, v, is, first, same_d, same_x, same_f) owner long =
      let own : FirstOf (class r) ≡ Process p = sym (ap (λ (g : Footprint). g.owner) same_f) ∙ owner in
      cc
  short_if s p ActivateInactive x f d acts owner long = acts
  short_if s p ActivateNba x f d acts owner long = acts
  short_if s p ActivateMonitor x f d acts owner long = acts
  short_if s p (Advance time) x f d acts owner long = acts

  -- whoever waits steps
  abbrev AllStep : OrderedState → Type 0
  AllStep u = (a : LooseTransition) → IsWaiting class u.0 a → (f : Footprint) × (n : OrderedState) × IsMove class design u.0 a f n.0

  no_long_turn : (u : OrderedState) (p : ℕ) → AllStep u → HasLongTurn design u.0 p → ⊥
  no_long_turn u p steps (number, is, long) =
      let waits : IsWaiting class u.0 (Process p) = (number, Evaluate p, is, refl) in
      let (f, n, (entry, x, step, owner, leads)) = steps (Process p) waits in
      let (going, (d, acts)) = step_acts class design u.0 entry x f step in
      short_if u.0 p entry x f d acts owner long

  none_where_ended : (limits : Limits) (u : OrderedState) (end : End) → AllStep u → end ≢ Stopped Entries → end ≢ Stopped Memory → has_any u.0.active ≡ true → u.0.finished ≡ false → EndsIn design limits 0 u.0 end → ⊥
  none_where_ended limits u Quiet steps most memory some going ends =
      never_true (has_any u.0.active) some
      (none_if_quiet (has_any u.0.active) (has_any u.0.inactive) (has_any u.0.nonblocking) (has_any u.0.monitor) (has_any u.0.future_inactive || has_any u.0.future_nonblocking) ends.0)
  none_where_ended limits u Running steps most memory some going ends = ends
  none_where_ended limits u (Stopped Finish) steps most memory some going ends = never_true u.0.finished ends going
  none_where_ended limits u (Stopped Entries) steps most memory some going ends = most refl
  none_where_ended limits u (Stopped (TooLong p)) steps most memory some going ends = no_long_turn u p steps ends.2
  none_where_ended limits u (Stopped Until) steps most memory some going ends = none_past u.0 limits.until some ends.2
  none_where_ended limits u (Stopped Time) steps most memory some going ends =
      never_true (has_any u.0.active) some
      (none_if_idle (has_any u.0.active) (has_any u.0.inactive) (has_any u.0.nonblocking) (has_any u.0.monitor) (has_any u.0.future_inactive || has_any u.0.future_nonblocking) ends.3.0)
  none_where_ended limits u (Stopped Memory) steps most memory some going ends = memory refl

  -- what leads on by a change of the regions, or not at all, does so from where nobody waits
  nobody_there : (limits : Limits) (u : OrderedState) (f g : Effect) (rest : List LooseTransition) (end : End) → AllStep u → u.0 ≡ f.state → ChangesFirst rest → moves_from class design f rest ≡ Some g → EndsHere design limits g end → has_any u.0.active ≡ true → u.0.finished ≡ false → ⊥
  nobody_there limits u f g [] end steps same first goes (most, memory, ends) some going =
      let is : f ≡ g = cc in
      none_where_ended limits u end steps most memory some going (subst (λ z. EndsIn design limits 0 z end) (sym (same ∙ ap (λ (z : Effect). z.state) is)) ends)
  nobody_there limits u f g (Process p ∷ rest) end steps same first goes ends some going = first
  nobody_there limits u f g (FirstOf c ∷ rest) end steps same first goes ends some going = first
  nobody_there limits u f g (Change entry ∷ rest) end steps same first goes ends some going =
      option_and_then_some (λ x. moves_from class design (joined f x) rest) (move class design f.state (Change entry)) g goes
      (λ x at_x later. never_true (has_any u.0.active) some (ap (λ z. has_any z.active) same ∙ none_changed class design f.state entry x at_x))

  -- where the run has finished it ends so, and nothing leads on

  finished_end : (limits : Limits) (u : State) (end : End) → u.finished ≡ true → end ≢ Stopped Memory → EndsIn design limits 0 u end → end ≡ Stopped Finish
  finished_end limits u Quiet finished memory ends = absurd (never_true u.finished finished ends.1)
  finished_end limits u Running finished memory ends = absurd ends
  finished_end limits u (Stopped Finish) finished memory ends = refl
  finished_end limits u (Stopped Entries) finished memory ends = absurd (never_true u.finished finished ends.2)
  finished_end limits u (Stopped (TooLong p)) finished memory ends = absurd (never_true u.finished finished ends.1)
  finished_end limits u (Stopped Until) finished memory ends = absurd (never_true u.finished finished ends.1)
  finished_end limits u (Stopped Time) finished memory ends = absurd (never_true u.finished finished ends.1)
  finished_end limits u (Stopped Memory) finished memory ends = absurd (memory refl)

  none_from : (u : State) (entry : Entry) (x : Effect) → u.finished ≡ true → loose_step class design u entry ≡ Some x → ⊥
  none_from u entry x finished step =
      let (going, none, made) = loose_parts class design u entry x step in
      never_true u.finished finished going

  no_move : (u : State) (o : Option Entry) (x : Effect) → u.finished ≡ true → option_and_then (loose_step class design u) o ≡ Some x → ⊥
  no_move u None x finished is = cc
  no_move u (Some entry) x finished is = none_from u entry x finished is

  stays_finished : (rest : List LooseTransition) (f g : Effect) → f.state.finished ≡ true → moves_from class design f rest ≡ Some g → f ≡ g
  stays_finished [] f g finished goes = cc
  stays_finished (a ∷ rest) f g finished goes =
      option_and_then_some (λ x. moves_from class design (joined f x) rest) (move class design f.state a) g goes
      (λ x at_x later. absurd (no_move f.state (entry_for class f.state a) x finished at_x))

  -- no time passes on a run

  acts_keep_time : (s : State) (entry : Entry) (x : Effect) (f : Footprint) (d : Deed) → IsInOrder s → s.finished ≡ false → Acts class design s entry d x f → x.state.time ≡ s.time
  acts_keep_time s (Turn n) x f d order going (p, t, is, found, same_d, same_x, same_f) = ap (λ (e : Effect). e.state.time) same_x ∙ (turned_is_done s n p t order).time
  acts_keep_time s (Update n) x f d order going (r, v, is, first, same_d, same_x, same_f) = ap (λ (e : Effect). e.state.time) same_x ∙ (updated_is_done s n r v order going).time
  acts_keep_time s ActivateInactive x f d order going acts = absurd acts
  acts_keep_time s ActivateNba x f d order going acts = absurd acts
  acts_keep_time s ActivateMonitor x f d order going acts = absurd acts
  acts_keep_time s (Advance time) x f d order going acts = absurd acts

  step_keeps_time : (m n : OrderedState) (a : LooseTransition) (f : Footprint) → IsMove class design m.0 a f n.0 → n.0.time ≡ m.0.time
  step_keeps_time m n a f (entry, x, step, owner, leads) =
      let (going, (d, acts)) = step_acts class design m.0 entry x f step in
      sym (ap (λ (z : State). z.time) leads) ∙ acts_keep_time m.0 entry x f d m.1 going acts

  run_keeps_time : (w : List (LooseTransition × Footprint)) (m t : OrderedState) → IsRunOfMoves moves m w t → t.0.time ≡ m.0.time
  run_keeps_time [] m t run = ap (λ (z : OrderedState). z.0.time) (sym run)
  run_keeps_time (x ∷ w) m t (n, step, later) = run_keeps_time w n t later ∙ step_keeps_time m n x.0 x.1 step

  module _ (s : State) (ways ends : List (List LooseTransition)) (notes : List NoteView) (somebody : LooseTransition) (waits : IsWaiting class s somebody) (h : StandTogether class design s ways ends notes) (all : (a : LooseTransition) → IsWaiting class s a → concern notes a ≡ true) where
    abbrev start : OrderedState
    start = (s, h.order)

    abbrev Alone : List (LooseTransition × Footprint) → OrderedState → Type 0
    Alone w u = RunsAlone moves everybody start w u

    stands : StandsFor moves (λ f told. IsTold f told) everybody start h.found
    unfolding everybody
    stands = larger_sets moves (λ f told. IsTold f told) (concern notes) everybody start h.found laws (λ a own. refl) (λ a own waits'. all a waits') h.stands

    is_one : (a : LooseTransition) → everybody a ≡ true
    unfolding everybody
    is_one a = refl

    -- a run from the start ends with one of the texts that were found, or none of its steps ends it
    abbrev EndsOrGoes : List (LooseTransition × Footprint) → List (LooseTransition × Footprint) → OrderedState → Type 0
    EndsOrGoes v w t = ((t.0.finished ≡ true) × Contains h.found.texts (printed_by_steps moves.prints v ++ printed_by_steps moves.prints w)) ⊎ NoneEnds moves.Ends w

    finished_by : (m n : OrderedState) (a : LooseTransition) (f : Footprint) → IsMove class design m.0 a f n.0 → f.finishes ≡ true → n.0.finished ≡ true
    finished_by m n a f (entry, x, step, owner, leads) ends =
        let (own, lines, changes, finished) = footprint_tells class design m.0 entry f x m.1 step in
        sym (ap (λ (z : State). z.finished) leads) ∙ finished ∙ ends

    step_ends : (v : List (LooseTransition × Footprint)) (x : LooseTransition × Footprint) (w : List (LooseTransition × Footprint)) (m n t : OrderedState) → Alone v m → IsMove class design m.0 x.0 x.1 n.0 → IsRunOfMoves moves n w t → x.1.finishes ≡ true → EndsOrGoes v (x ∷ w) t
    step_ends v x [] m n t alone step run ends =
        let text : Contains h.found.texts (printed_by_steps moves.prints v ++ x.1.lines) = stands.ended v m n x.0 x.1 alone (is_one x.0) step ends in
        inl
        (subst (λ (z : OrderedState). z.0.finished ≡ true) run (finished_by m n x.0 x.1 step ends), subst (λ z. Contains h.found.texts (printed_by_steps moves.prints v ++ z)) (sym (append-nil x.1.lines)) text)
    step_ends v x (y ∷ w) m n t alone step (r, next, later) ends = absurd (laws.last m n r x.0 y.0 x.1 y.1 step ends next)

    text_more : (v w : List (LooseTransition × Footprint)) (x : LooseTransition × Footprint) → printed_by_steps moves.prints (v ++ (x ∷ [])) ++ printed_by_steps moves.prints w ≡ printed_by_steps moves.prints v ++ (x.1.lines ++ printed_by_steps moves.prints w)
    text_more v w x =
        ap (λ z. z ++ printed_by_steps moves.prints w) (printed_both OrderedState LooseTransition Footprint moves v (x ∷ []) ∙ ap (λ z. printed_by_steps moves.prints v ++ z) (append-nil x.1.lines))
        ∙ append_assoc (printed_by_steps moves.prints v) x.1.lines (printed_by_steps moves.prints w)

    ends_or_goes : (v w : List (LooseTransition × Footprint)) (m t : OrderedState) → Alone v m → IsRunOfMoves moves m w t → EndsOrGoes v w t
    ends_or_goes v [] m t alone run = inr tt
    ends_or_goes v (x ∷ w) m t (run, of, none) (n, step, later) =
        elim (is_or_not x.1.finishes) [
          | inl ended ↦ step_ends v x w m n t (run, of, none) step later ended
          | inr goes ↦
              let free : x.1.finishes ≡ true → ⊥ = λ ended. never_true x.1.finishes ended goes in
              let longer : Alone (v ++ (x ∷ [])) n = (
                runs_both OrderedState LooseTransition Footprint moves start m n v (x ∷ []) run (n, step, refl),
                everyone (v ++ (x ∷ [])),
                none_both moves.Ends v (x ∷ []) none (free, tt),
              ) in
              elim (ends_or_goes (v ++ (x ∷ [])) w n t longer later) [
                | inl (finished, text) ↦ inl (finished, subst (Contains h.found.texts) (text_more v w x) text)
                | inr rest ↦ inr (free, rest)
              ]
        ]

    all_step : (w : List (LooseTransition × Footprint)) (u : OrderedState) → Alone w u → AllStep u
    all_step w u alone a waits' = stands.goes_on w u a alone (is_one a) waits'

    over_by : (limits : Limits) (w : List (LooseTransition × Footprint)) (u : OrderedState) (f g : Effect) (rest : List LooseTransition) (end : End) → Alone w u → u.0 ≡ f.state → ChangesFirst rest → moves_from class design f rest ≡ Some g
        → EndsHere design limits g end → (a : LooseTransition) → IsWaiting class u.0 a → ⊥
    over_by limits w u f g rest end alone same first goes ends a waits' =
        let (own, n, step) = all_step w u alone a waits' in
        let (some, going) = stepping u n a own step in
        nobody_there limits u f g rest end (all_step w u alone) same first goes ends some going

    -- something leads on to where nobody waits
    some_part : (u : OrderedState) (f : Effect) (part : List LooseTransition) → u.0 ≡ f.state → moves_from class design (silent s) part ≡ Some f → ((a : LooseTransition) → IsWaiting class u.0 a → ⊥) → 0 < length part
    some_part u f (a ∷ part) is begins over = omega arith
    some_part u f [] is begins over =
        let same : silent s ≡ f = cc in
        absurd (over somebody (subst (λ z. IsWaiting class z somebody) (sym (is ∙ sym (ap (λ (z : Effect). z.state) same))) waits))

    module _ (limits : Limits) (transitions part rest : List LooseTransition) (f g : Effect) (end : End) (same : part ++ rest ≡ transitions) (begins : moves_from class design (silent s) part ≡ Some f) (later : moves_from class design f rest ≡ Some g) (first : ChangesFirst rest)
        (here : EndsHere design limits g end) (w : List (LooseTransition × Footprint)) (u : OrderedState) (run_w : IsRunOfMoves moves start w u) (is : u.0 ≡ f.state) (lines : f.lines ≡ printed_by_steps (λ (x : Footprint). x.lines) w) where
      abbrev Covers : Type 0
      Covers =
          ((p : List LooseTransition) × (r : List LooseTransition) × (0 < length p) × (p ++ r ≡ transitions) × Any (λ way. LeadToOneLooseNode class design limits s p way) ways)
          ⊎ ((end ≡ Stopped Finish) × (g.state.time ≡ s.time) × Any (λ way. LeadsToFinish class design limits s g.lines way) ends)

      covers_going : NoneEnds moves.Ends w → Covers
      covers_going none =
          let alone : Alone w u = (run_w, everyone w, none) in
          let over : (a : LooseTransition) → IsWaiting class u.0 a → ⊥ = over_by limits w u f g rest end alone is first later here in
          let (y, v, there, (run_y, of, none_y), near, prints) = stands.whole w u alone (λ a own waits'. over a waits') in
          let (way, leads, printed_way, near_way) = has_way class design y start v (silent s) h.order (states_in-same class s) run_y in
          let one : LeadToOneLooseNode class design limits s part (actors_of y) = (
            f,
            way,
            begins,
            leads,
            are_timely class design limits y start v run_y,
            (lines ∙ sym prints ∙ sym printed_way, states_in-trans class f.state v.0 way.state (subst (λ z. AlikeIn class z v.0) is near) near_way),
          ) in
          inl (part, rest, some_part u f part is begins over, same, any_there (λ others. LeadToOneLooseNode class design limits s part others) ways (actors_of y) (h.ways_are y there) one)

      covers_ended : u.0.finished ≡ true → Contains h.found.texts (printed_by_steps moves.prints w) → Covers
      covers_ended finished text =
          let (y, v, run_y, finished_y, prints, there) = h.ends_are (printed_by_steps moves.prints w) text in
          let (way, leads, printed_way, near_way) = has_way class design y start v (silent s) h.order (states_in-same class s) run_y in
          let finished_f : f.state.finished ≡ true = sym (ap (λ (z : State). z.finished) is) ∙ finished in
          let all_g : f ≡ g = stays_finished rest f g finished_f later in
          let finished_g : g.state.finished ≡ true = ap (λ (z : Effect). z.state.finished) (sym all_g) ∙ finished_f in
          let one : LeadsToFinish class design limits s g.lines (actors_of y) = (
            way,
            leads,
            are_timely class design limits y start v run_y,
            sym near_way.finished ∙ finished_y,
            printed_way ∙ prints ∙ sym lines ∙ ap (λ (z : Effect). z.lines) all_g,
          ) in
          let time : g.state.time ≡ s.time = ap (λ (z : Effect). z.state.time) (sym all_g) ∙ (sym (ap (λ (z : State). z.time) is) ∙ run_keeps_time w start u run_w) in
          inr (finished_end limits g.state end finished_g here.1 here.2, time, any_there (λ others. LeadsToFinish class design limits s g.lines others) ends (actors_of y) there one)

      covers_by : Covers
      covers_by =
          elim (ends_or_goes [] w start u (refl, tt, tt) run_w) [
            | inl (finished, text) ↦ covers_ended finished text
            | inr none ↦ covers_going none
          ]

-- where somebody whom the notes concern waits, he has a short turn
pub nobody_is_long : (class : ℕ → ℕ) (design : Design) (s : State) (ways ends : List (List LooseTransition)) (notes : List NoteView) → StandTogether class design s ways ends notes → ((a : LooseTransition) → IsWaiting class s a → concern notes a ≡ true)
    → (p : ℕ) → HasLongTurn design s p → ⊥
nobody_is_long class design s ways ends notes h all p long =
    no_long_turn class design (s, h.order) p (λ a waits. h.stands.goes_on [] (s, h.order) a (refl, tt, tt) (all a waits) waits) long

pub standing_covers : StandingCovers
standing_covers class design limits s ways ends notes somebody waits h all transition more g end goes timely here =
    let (part, rest, same, actors, first) = divided (transition ∷ more) in
    let (f, begins, later) = lead_through class design part rest (silent s) g (ap (moves_from class design (silent s)) same ∙ goes) in
    let (w, u, run_w, is, lines) = are_run class design part (silent s) f (s, h.order) refl actors begins in
    covers_by class design s ways ends notes somebody waits h all limits (transition ∷ more) part rest f g end same begins later first here w u run_w is lines

pub no_ends_cover : NoEndsCover
no_ends_cover class design limits s ways covers transition more g end goes timely here =
    elim (covers transition more g end goes timely here) [
      | inl cover ↦ cover
      | inr (is, time, (k, way, less, at, leads)) ↦ absurd (contains_nothing way (k, less, at))
    ]
