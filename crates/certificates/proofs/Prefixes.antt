-- Each loose run to an end begins like a certified one.
use Rattle.std.proofs.Common.{◌≡◌, ◌≢◌, ℕ, Bool, true, false, not, ◌&&◌, ◌||◌, List, [], ◌∷◌, ◌++◌, Option, Some, None, refl, sym, ap, subst, ◌∙◌, append-nil}
use Rattle.std.proofs.lemmas.Option.{option_and_then_some}
use Rattle.std.specs.Prelude.{option_and_then}
use Rattle.model.specs.declared.entry.Entry.{Entry}
use Rattle.model.specs.declared.entry.Entry.TheVariants.{Turn, Update, ActivateInactive, ActivateNba, ActivateMonitor, Advance}
use Rattle.model.specs.declared.entry.Refusal.TheVariants.{NotDue}
use Rattle.model.specs.declared.end.Limits.{Limits}
use Rattle.model.specs.declared.end.Why.TheVariants.{Finish, Until, Entries, TooLong, Time, Memory}
use Rattle.model.specs.declared.end.End.{End}
use Rattle.model.specs.declared.end.End.TheVariants.{Quiet, Running, Stopped}
use Rattle.model.specs.Design.{Design}
use Rattle.model.specs.States.{Action, Evaluate, Event, State}
use Rattle.model.specs.Runs.{Effect, action_in, has_any, any_of, turn_of, joined, least_time, time_refusal, EndsIn, HasLongTurn, IsPastLimit}
use Rattle.model.proofs.RunLaws.{where_none}
use Rattle.model.specs.Texts.{EndsHere}
use Rattle.loose.specs.declared.transition.LooseTransition.{LooseTransition}
use Rattle.loose.specs.declared.transition.LooseTransition.TheVariants.{Process, FirstOf}
use Rattle.loose.specs.Loose.{AlikeIn, loose_step, loose_run_from}
use Rattle.traces.specs.Traces.{Moves, IsRunOfMoves, printed_by_steps}
use Rattle.traces.specs.Certificates.{IsCertificate}
use Rattle.traces.proofs.Certificates.{goes_on_from, steps_on}
use Rattle.footprints.specs.Footprints.{Footprint}
use Rattle.footprints.specs.Moves.{OrderedState, IsMove, IsWaiting, loose_moves, TakeEvents}
use Rattle.footprints.proofs.Steps.{loose_parts, step_acts, Acts, Matches, acts_match}
use Rattle.footprints.proofs.Deeds.{Deed}
use Rattle.footprints.proofs.LooseMoves.{loose_steps_are_moves}
use Rattle.footprints.proofs.Swaps.{loose_steps_have_swaps}
use Rattle.footprints.proofs.MoveRuns.{runs_are_moves}
use Rattle.certificates.specs.CertificateLaws.{NobodyWaits, CertifiedIsPrefix}
use Rattle.certificates.proofs.Tests.{never_true}
use Rattle.certificates.proofs.CertifiedRuns.{certified_is_certificate}

-- entries up to the first change of the regions

abbrev ChangesFirst : List Entry → Type 0
ChangesFirst [] = Unit {0}
ChangesFirst (Turn number ∷ entries) = ⊥
ChangesFirst (Update number ∷ entries) = ⊥
ChangesFirst (_ ∷ entries) = Unit {0}

abbrev Divided : List Entry → Type 0
Divided entries = (before : List Entry) × (after : List Entry) × (before ++ after ≡ entries) × TakeEvents before × ChangesFirst after

divided : (entries : List Entry) → Divided entries
divided [] = ([], [], refl, tt, tt)
divided (Turn n ∷ entries) = let (before, after, same, take, first) = divided entries in (Turn n ∷ before, after, ap (λ es. Turn n ∷ es) same, take, first)
divided (Update n ∷ entries) = let (before, after, same, take, first) = divided entries in (Update n ∷ before, after, ap (λ es. Update n ∷ es) same, take, first)
divided (ActivateInactive ∷ entries) = ([], ActivateInactive ∷ entries, refl, tt, tt)
divided (ActivateNba ∷ entries) = ([], ActivateNba ∷ entries, refl, tt, tt)
divided (ActivateMonitor ∷ entries) = ([], ActivateMonitor ∷ entries, refl, tt, tt)
divided (Advance time ∷ entries) = ([], Advance time ∷ entries, refl, tt, tt)

abbrev RunsThrough : (ℕ → ℕ) → Design → Effect → List Entry → List Entry → Effect → Type 0
RunsThrough class design e before after g =
    (f : Effect) × (loose_run_from class design e before ≡ Some f) × (loose_run_from class design f after ≡ Some g)

runs_through : (class : ℕ → ℕ) (design : Design) (before after : List Entry) (e g : Effect) → loose_run_from class design e (before ++ after) ≡ Some g → RunsThrough class design e before after g
runs_through class design [] after e g run = (e, refl, run)
runs_through class design (entry ∷ before) after e g run =
    option_and_then_some (λ x. loose_run_from class design (joined e x) (before ++ after)) (loose_step class design e.state entry) g run
    (λ x step later.
    let (f, first, rest) = runs_through class design before after (joined e x) g later in
    (f, ap (option_and_then (λ y. loose_run_from class design (joined e y) before)) step ∙ first, rest))

-- where something is active, the regions don't change, and a run doesn't end but by a turn that is too long

first_false : (a b : Bool) → (a || b) ≡ false → a ≡ false
first_false true b h = h
first_false false b h = refl

none_of_two : (a b c : Bool) → (any_of (a ∷ b ∷ []) || c) ≡ false → a ≡ false
none_of_two true b c h = cc
none_of_two false b c h = refl

none_of_three : (a b c d : Bool) → (any_of (a ∷ b ∷ c ∷ []) || d) ≡ false → a ≡ false
none_of_three true b c d h = cc
none_of_three false b c d h = refl

none_of_four : (a b c d : Bool) → any_of (a ∷ b ∷ c ∷ d ∷ []) ≡ false → a ≡ false
none_of_four true b c d h = cc
none_of_four false b c d h = refl

none_if_quiet : (a b c d e : Bool) → not (any_of (a ∷ b ∷ c ∷ d ∷ e ∷ [])) ≡ true → a ≡ false
none_if_quiet true b c d e h = cc
none_if_quiet false b c d e h = refl

none_if_idle : (a b c d e : Bool) → (not (any_of (a ∷ b ∷ c ∷ d ∷ [])) && e) ≡ true → a ≡ false
none_if_idle true b c d e h = cc
none_if_idle false b c d e h = refl

pub none_where_changed : (class : ℕ → ℕ) (design : Design) (s : State) (entry : Entry) (entries : List Entry) (x : Effect) → ChangesFirst (entry ∷ entries) → loose_step class design s entry ≡ Some x → has_any s.active ≡ false
none_where_changed class design s (Turn n) entries x first step = absurd first
none_where_changed class design s (Update n) entries x first step = absurd first
none_where_changed class design s ActivateInactive entries x first step =
    let (going, none, made) = loose_parts class design s ActivateInactive x step in
    first_false (has_any s.active) (not (has_any s.inactive)) (where_none (has_any s.active || not (has_any s.inactive)) NotDue None none).0
none_where_changed class design s ActivateNba entries x first step =
    let (going, none, made) = loose_parts class design s ActivateNba x step in
    none_of_two (has_any s.active) (has_any s.inactive) (not (has_any s.nonblocking))
    (where_none (any_of (has_any s.active ∷ has_any s.inactive ∷ []) || not (has_any s.nonblocking)) NotDue None none).0
none_where_changed class design s ActivateMonitor entries x first step =
    let (going, none, made) = loose_parts class design s ActivateMonitor x step in
    none_of_three (has_any s.active) (has_any s.inactive) (has_any s.nonblocking) (not (has_any s.monitor))
    (where_none (any_of (has_any s.active ∷ has_any s.inactive ∷ has_any s.nonblocking ∷ []) || not (has_any s.monitor)) NotDue None none).0
none_where_changed class design s (Advance time) entries x first step =
    let (going, none, made) = loose_parts class design s (Advance time) x step in
    none_of_four (has_any s.active) (has_any s.inactive) (has_any s.nonblocking) (has_any s.monitor)
    (where_none (any_of (has_any s.active ∷ has_any s.inactive ∷ has_any s.nonblocking ∷ has_any s.monitor ∷ [])) NotDue (time_refusal time (least_time s)) none).0

some_active : (n : ℕ) (a : Action) (events : List Event) → action_in events n ≡ Some a → has_any events ≡ true
some_active n a [] is = cc
some_active n a (e ∷ events) is = refl

module _ (class : ℕ → ℕ) (design : Design) where
  abbrev moves : Moves OrderedState LooseTransition Footprint
  moves = loose_moves class design

  -- who steps has an event, and the run isn't finished
  stepping : (s t : OrderedState) (a : LooseTransition) (f : Footprint) → IsMove class design s.0 a f t.0 → (has_any s.0.active ≡ true) × (s.0.finished ≡ false)
  stepping s t a f (entry, x, step, owner, leads) =
      let (going, (d, acts)) = step_acts class design s.0 entry x f step in
      let match : Matches class s.0 d x f = acts_match class design s.0 entry d x f acts in
      let (action, is, own) = match.active in
      (some_active d.number action s.0.active is, going)

  -- a process that steps has a short turn
  short_if : (s : State) (p : ℕ) (entry : Entry) (x : Effect) (f : Footprint) (d : Deed) → Acts class design s entry d x f → f.owner ≡ Process p → turn_of design s p ≡ None → ⊥
  short_if s p (Turn n) x f d (q, t, is, found, same_d, same_x, same_f) owner long =
      let own : Process q ≡ Process p = sym (ap (λ (g : Footprint). g.owner) same_f) ∙ owner in
      let same : q ≡ p = cc in
      let there : turn_of design s p ≡ Some t = ap (turn_of design s) (sym same) ∙ found in
      cc
  short_if s p (Update n) x f d (r, v, is, first, same_d, same_x, same_f) owner long =
      let own : FirstOf (class r) ≡ Process p = sym (ap (λ (g : Footprint). g.owner) same_f) ∙ owner in
      cc
  short_if s p ActivateInactive x f d acts owner long = acts
  short_if s p ActivateNba x f d acts owner long = acts
  short_if s p ActivateMonitor x f d acts owner long = acts
  short_if s p (Advance time) x f d acts owner long = acts

  no_long_turn : (s t u : OrderedState) (v w : List (LooseTransition × Footprint)) (p : ℕ) → IsCertificate moves s v t → NobodyWaits class t.0 → IsRunOfMoves moves s w u → HasLongTurn design u.0 p → ⊥
  no_long_turn s t u v w p cert over run (number, is, long) =
      let waits : IsWaiting class u.0 (Process p) = (number, Evaluate p, is, refl) in
      let (f, n, (entry, x, step, owner, leads)) =
      steps_on OrderedState LooseTransition Footprint moves (loose_steps_are_moves class design) (loose_steps_have_swaps class design) s t u v w (Process p) cert over run waits in
      let (going, (d, acts)) = step_acts class design u.0 entry x f step in
      short_if u.0 p entry x f d acts owner long

  none_past : (s : State) (o : Option ℕ) → has_any s.active ≡ true → IsPastLimit s o → ⊥
  none_past s None some past = past
  none_past s (Some until) some past =
      never_true (has_any s.active) some (none_if_idle (has_any s.active) (has_any s.inactive) (has_any s.nonblocking) (has_any s.monitor) (has_any s.future_inactive || has_any s.future_nonblocking) past.0)

  module _ (limits : Limits) (s t u : OrderedState) (v w : List (LooseTransition × Footprint)) (cert : IsCertificate moves s v t) (over : NobodyWaits class t.0) (run : IsRunOfMoves moves s w u) where
    pub none_where_ended : (end : End) → end ≢ Stopped Entries → end ≢ Stopped Memory → has_any u.0.active ≡ true → u.0.finished ≡ false → EndsIn design limits 0 u.0 end → ⊥
    none_where_ended Quiet most memory some going ends =
        never_true (has_any u.0.active) some
        (none_if_quiet (has_any u.0.active) (has_any u.0.inactive) (has_any u.0.nonblocking) (has_any u.0.monitor) (has_any u.0.future_inactive || has_any u.0.future_nonblocking) ends.0)
    none_where_ended Running most memory some going ends = ends
    none_where_ended (Stopped Finish) most memory some going ends = never_true u.0.finished ends going
    none_where_ended (Stopped Entries) most memory some going ends = most refl
    none_where_ended (Stopped (TooLong p)) most memory some going ends = no_long_turn s t u v w p cert over run ends.2
    none_where_ended (Stopped Until) most memory some going ends = none_past u.0 limits.until some ends.2
    none_where_ended (Stopped Time) most memory some going ends =
        never_true (has_any u.0.active) some
        (none_if_idle (has_any u.0.active) (has_any u.0.inactive) (has_any u.0.nonblocking) (has_any u.0.monitor) (has_any u.0.future_inactive || has_any u.0.future_nonblocking) ends.3.0)
    none_where_ended (Stopped Memory) most memory some going ends = memory refl

    none_goes_on : (f g : Effect) (after : List Entry) (end : End) → u.0 ≡ f.state → ChangesFirst after → loose_run_from class design f after ≡ Some g → EndsHere design limits g end → has_any u.0.active ≡ true → u.0.finished ≡ false → ⊥
    none_goes_on f g [] end same first run' (most, memory, ends) some going =
        let is : f ≡ g = cc in
        none_where_ended end most memory some going (subst (λ z. EndsIn design limits 0 z end) (sym (same ∙ ap (λ (z : Effect). z.state) is)) ends)
    none_goes_on f g (entry ∷ after) end same first run' ends some going =
        option_and_then_some (λ x. loose_run_from class design (joined f x) after) (loose_step class design f.state entry) g run'
        (λ x step later.
        never_true (has_any u.0.active) some (ap (λ z. has_any z.active) same ∙ none_where_changed class design f.state entry after x first step))

    abbrev Whole : Type 0
    Whole = AlikeIn class u.0 t.0 × (printed_by_steps (λ (g : Footprint). g.lines) w ≡ printed_by_steps (λ (g : Footprint). g.lines) v)

    whole : (rest : List (LooseTransition × Footprint)) (r : OrderedState) → (has_any u.0.active ≡ true → u.0.finished ≡ false → ⊥) → IsRunOfMoves moves u rest r → AlikeIn class r.0 t.0
        → printed_by_steps (λ (g : Footprint). g.lines) w ++ printed_by_steps (λ (g : Footprint). g.lines) rest ≡ printed_by_steps (λ (g : Footprint). g.lines) v → Whole
    whole [] r stuck is near prints =
        (subst (λ (z : OrderedState). AlikeIn class z.0 t.0) (sym is) near, sym (append-nil (printed_by_steps (λ (g : Footprint). g.lines) w)) ∙ prints)
    whole (x ∷ rest) r stuck (m, step, later) near prints =
        let (some, going) = stepping u m x.0 x.1 step in
        absurd (stuck some going)

    -- a run that can't go on by events has done what the certified one does
    pub whole_where : (has_any u.0.active ≡ true → u.0.finished ≡ false → ⊥) → Whole
    whole_where stuck =
        let (rest, r, run_r, near, free, free', prints) =
        goes_on_from OrderedState LooseTransition Footprint moves (loose_steps_are_moves class design) (loose_steps_have_swaps class design) s t u v w cert over run in
        whole rest r stuck run_r near prints

pub certified_is_prefix : CertifiedIsPrefix
certified_is_prefix class design limits e g order t v entries end come run certified over run' ends =
    let (before, after, same, take, first) = divided entries in
    let (f, begins, rest) = runs_through class design before after e g (ap (loose_run_from class design e) same ∙ run') in
    let (w, u, moves_w, is, lines) = runs_are_moves class design e f order before take begins in
    let s : OrderedState = (e.state, order) in
    let cert : IsCertificate (loose_moves class design) s v t = certified_is_certificate class design s t v come run certified in
    let (near, prints) = whole_where class design limits s t u v w cert over moves_w (none_goes_on class design limits s t u v w cert over moves_w f g after end is first rest ends) in
    (before, after, f, same, (take, begins, lines ∙ ap (λ ls. e.lines ++ ls) prints, subst (λ z. AlikeIn class z t.0) is near), rest)
