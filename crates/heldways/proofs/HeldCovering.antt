-- A way through all that is active covers what leads on from its start, where whichever events come first lead to one loose node.
use Rattle.std.proofs.Common.{◌≡◌, ◌≢◌, ℕ, ◌<◌, false, List, [], ◌∷◌, ◌++◌, length, Some, None, refl, sym, ap, subst, ◌∙◌, arith}
use Rattle.std.specs.Prelude.{option_and_then, option_map}
use Rattle.std.specs.List.{All, Any}
use Rattle.std.proofs.lemmas.List.Elements.{All-nil, All-cons, All-head, All-tail}
use Rattle.std.proofs.lemmas.Option.{option_and_then_some}
use Rattle.model.specs.declared.entry.Entry.{Entry}
use Rattle.model.specs.declared.entry.Entry.TheVariants.{Turn, Update, ActivateInactive, ActivateNba, ActivateMonitor, Advance}
use Rattle.model.specs.declared.end.Limits.{Limits}
use Rattle.model.specs.declared.end.End.{End}
use Rattle.model.specs.Design.{Design}
use Rattle.model.specs.States.{Action, Evaluate, Event, State}
use Rattle.model.specs.Runs.{Effect, silent, joined, has_any, action_in}
use Rattle.model.specs.Laws.{evaluates}
use Rattle.model.specs.Texts.{EndsHere}
use Rattle.orders.specs.Alike.{IsInOrder}
use Rattle.orders.proofs.SearchLaws.{then_some}
use Rattle.phases.specs.Phase.{SettleBetween, TakesEvent}
use Rattle.loose.specs.declared.transition.LooseTransition.{LooseTransition}
use Rattle.loose.specs.declared.transition.LooseTransition.TheVariants.{Process, FirstOf, Change}
use Rattle.loose.specs.Loose.{updates_class, loose_step, loose_run_from, loose_transition_of}
use Rattle.loose.specs.LooseLaws.{IsOneLooseNode}
use Rattle.loose.proofs.ClassLists.{alike_in-has_any}
use Rattle.loose.proofs.LooseSteps.{from_loose, loose_step_keeps_order}
use Rattle.loosephases.specs.LoosePhase.{EndsPhaseLoosely}
use Rattle.certificates.proofs.OneEvent.{HasOneEvent}
use Rattle.certificates.proofs.Prefixes.{none_where_changed}
use Rattle.looseruns.specs.LooseMoves.{first_number, move, moves_from}
use Rattle.looseruns.specs.LooseCover.{LeadToOneLooseNode, CoverMoves}
use Rattle.looseruns.specs.LooseGoing.{GoesLooselyTo}
use Rattle.looseruns.proofs.Moves.{move_is_loose_step}
use Rattle.heldways.specs.HeldWays.{TransitionsTakeEvents, HeldWayCovers}
use Rattle.heldways.proofs.OneEventEach.{like_has_one}
use Rattle.heldways.proofs.HeldEnds.{settle_on}
use Rattle.heldways.proofs.AsleepRuns.{held_is_prefix_here}
use Rattle.heldways.proofs.AsleepEnds.{held_ends_in_one_node}

-- transitions up to the first change of the regions

abbrev IsEvent : LooseTransition → Type 0
IsEvent (Process p) = Unit {0}
IsEvent (FirstOf c) = Unit {0}
IsEvent (Change entry) = ⊥

abbrev ChangesFirst : List LooseTransition → Type 0
ChangesFirst [] = Unit {0}
ChangesFirst (Process p ∷ more) = ⊥
ChangesFirst (FirstOf c ∷ more) = ⊥
ChangesFirst (Change entry ∷ more) = Unit {0}

abbrev Divided : List LooseTransition → Type 0
Divided transitions =
    (part : List LooseTransition) × (rest : List LooseTransition) × (part ++ rest ≡ transitions) × TransitionsTakeEvents part × ChangesFirst rest

divided : (transitions : List LooseTransition) → Divided transitions
divided [] = ([], [], refl, tt, tt)
divided (Process p ∷ more) =
    let (part, rest, same, events, first) = divided more in
    (Process p ∷ part, rest, ap (λ ts. Process p ∷ ts) same, events, first)
divided (FirstOf c ∷ more) =
    let (part, rest, same, events, first) = divided more in
    (FirstOf c ∷ part, rest, ap (λ ts. FirstOf c ∷ ts) same, events, first)
divided (Change entry ∷ more) = ([], Change entry ∷ more, refl, tt, tt)

first_of : (t : LooseTransition) (ts : List LooseTransition) → TransitionsTakeEvents (t ∷ ts) → IsEvent t × TransitionsTakeEvents ts
first_of (Process p) ts events = (tt, events)
first_of (FirstOf c) ts events = (tt, events)
first_of (Change entry) ts events = absurd events

-- they come of entries that take events

no_event : (t : LooseTransition) (entry : Entry) → IsEvent t → Some (Change entry) ≡ Some t → ⊥
no_event (Process p) entry event h = cc
no_event (FirstOf c) entry event h = cc
no_event (Change other) entry event h = event

takes_event : (class : ℕ → ℕ) (s : State) (entry : Entry) (t : LooseTransition) → IsEvent t → loose_transition_of class s entry ≡ Some t → TakesEvent entry
takes_event class s (Turn n) t event is = tt
takes_event class s (Update n) t event is = tt
takes_event class s ActivateInactive t event is = no_event t ActivateInactive event is
takes_event class s ActivateNba t event is = no_event t ActivateNba event is
takes_event class s ActivateMonitor t event is = no_event t ActivateMonitor event is
takes_event class s (Advance time) t event is = no_event t (Advance time) event is

abbrev ComeOfEvents : (ℕ → ℕ) → Design → Effect → Effect → Type 0
ComeOfEvents class design e f =
    (entries : List Entry) × All TakesEvent entries × (loose_run_from class design e entries ≡ Some f)

come_of_events : (class : ℕ → ℕ) (design : Design) (ts : List LooseTransition) (e f : Effect) → IsInOrder e.state → TransitionsTakeEvents ts → moves_from class design e ts ≡ Some f → ComeOfEvents class design e f
come_of_events class design [] e f order events is = ([], All-nil TakesEvent, is)
come_of_events class design (t ∷ ts) e f order events is =
    let (event, others) = first_of t ts events in
    option_and_then_some (λ x. moves_from class design (joined e x) ts) (move class design e.state t) f is
    (λ x at_x later.
    let (entry, its, step) = move_is_loose_step class design e.state t x order at_x in
    let (entries, take, run) = come_of_events class design ts (joined e x) f (loose_step_keeps_order class design e.state entry x order step) others later in (
      entry ∷ entries,
      All-cons TakesEvent entry entries (takes_event class e.state entry t event its) take,
      then_some (λ y. loose_run_from class design (joined e y) entries) (loose_step class design e.state entry) x f step run,
    ))

-- what transitions lead to, in two parts
abbrev LeadThrough : (ℕ → ℕ) → Design → Effect → List LooseTransition → List LooseTransition → Effect → Type 0
LeadThrough class design e part rest g =
    (f : Effect) × (moves_from class design e part ≡ Some f) × (moves_from class design f rest ≡ Some g)

lead_through : (class : ℕ → ℕ) (design : Design) (part rest : List LooseTransition) (e g : Effect) → moves_from class design e (part ++ rest) ≡ Some g → LeadThrough class design e part rest g
lead_through class design [] rest e g run = (e, refl, run)
lead_through class design (t ∷ part) rest e g run =
    option_and_then_some (λ x. moves_from class design (joined e x) (part ++ rest)) (move class design e.state t) g run
    (λ x at_x later.
    let (f, first, last) = lead_through class design part rest (joined e x) g later in
    (f, then_some (λ y. moves_from class design (joined e y) part) (move class design e.state t) x f at_x first, last))

-- what is active where something moves

nothing_moves : (class : ℕ → ℕ) (design : Design) (s : State) (t : LooseTransition) (x : Effect) → IsEvent t → s.active ≡ [] → move class design s t ≡ Some x → ⊥
nothing_moves class design s (Process p) x event none is =
    let gone : move class design s (Process p) ≡ None = ap (λ es. option_and_then (loose_step class design s) (option_map Turn (first_number (evaluates p) es))) none in
    cc
nothing_moves class design s (FirstOf c) x event none is =
    let gone : move class design s (FirstOf c) ≡ None = ap (λ es. option_and_then (loose_step class design s) (option_map Update (first_number (updates_class class c) es))) none in
    cc
nothing_moves class design s (Change entry) x event none is = absurd event

something_moves : (class : ℕ → ℕ) (design : Design) (ts : List LooseTransition) (s : State) (f : Effect) → ts ≢ [] → TransitionsTakeEvents ts → moves_from class design (silent s) ts ≡ Some f → s.active ≡ [] → ⊥
something_moves class design [] s f some events is none = some refl
something_moves class design (t ∷ ts) s f some events is none =
    let (event, others) = first_of t ts events in
    option_and_then_some (λ x. moves_from class design (joined (silent s) x) ts) (move class design s t) f is (λ x at_x later. nothing_moves class design s t x event none at_x)

empty_if : (es : List Event) → has_any es ≡ false → es ≡ []
empty_if [] h = refl
empty_if (e ∷ es) h = cc

none_changed : (class : ℕ → ℕ) (design : Design) (s : State) (entry : Entry) (x : Effect) → move class design s (Change entry) ≡ Some x → has_any s.active ≡ false
none_changed class design s (Turn n) x at_x = cc
none_changed class design s (Update n) x at_x = cc
none_changed class design s ActivateInactive x at_x = none_where_changed class design s ActivateInactive [] x tt at_x
none_changed class design s ActivateNba x at_x = none_where_changed class design s ActivateNba [] x tt at_x
none_changed class design s ActivateMonitor x at_x = none_where_changed class design s ActivateMonitor [] x tt at_x
none_changed class design s (Advance time) x at_x = none_where_changed class design s (Advance time) [] x tt at_x

-- no entry takes an event where none is active

none_there : (es : List Event) (n : ℕ) (a : Action) → es ≡ [] → action_in es n ≡ Some a → ⊥
none_there [] n a none is = cc
none_there (e ∷ es) n a none is = cc

nothing_steps : (class : ℕ → ℕ) (design : Design) (s : State) (entry : Entry) (x : Effect) → TakesEvent entry → s.active ≡ [] → loose_step class design s entry ≡ Some x → ⊥
nothing_steps class design s (Turn n) x takes none step =
    let (going, (p, turn, at, exact, short, same)) = from_loose class design s (Turn n) x step in
    none_there s.active n (Evaluate p) none at
nothing_steps class design s (Update n) x takes none step =
    let (going, (r, v, at, first, same)) = from_loose class design s (Update n) x step in
    none_there s.active n (Action.Update r v) none at
nothing_steps class design s ActivateInactive x takes none step = takes
nothing_steps class design s ActivateNba x takes none step = takes
nothing_steps class design s ActivateMonitor x takes none step = takes
nothing_steps class design s (Advance time) x takes none step = takes

takes_after : (before after : List Entry) → All TakesEvent (before ++ after) → All TakesEvent after
takes_after [] after takes = takes
takes_after (entry ∷ before) after takes = takes_after before after (All-tail TakesEvent entry (before ++ after) takes)

still_over : (class : ℕ → ℕ) (design : Design) (entries : List Entry) (e f : Effect) → All TakesEvent entries → e.state.active ≡ [] → loose_run_from class design e entries ≡ Some f → f.state.active ≡ []
still_over class design [] e f takes over run =
    let same : e ≡ f = cc in
    ap (λ (x : Effect). x.state.active) (sym same) ∙ over
still_over class design (entry ∷ entries) e f takes over run =
    option_and_then_some (λ x. loose_run_from class design (joined e x) entries) (loose_step class design e.state entry) f run
    (λ x step later. absurd (nothing_steps class design e.state entry x (All-head TakesEvent entry entries takes) over step))

any_here : {X : Type 0} (P : X → Type 0) (x : X) → P x → Any P (x ∷ [])
any_here {X} P x h = (0, x, omega arith, refl, h)

-- where whichever events come first lead to one loose node with a way to an end, and each run to an end comes there

abbrev Prefixed : (ℕ → ℕ) → Design → Limits → State → Type 0
Prefixed class design limits s =
    (entries : List Entry) (g : Effect) (end : End) → loose_run_from class design (silent s) entries ≡ Some g → EndsHere design limits g end
    → (before : List Entry) × (after : List Entry) × (f : Effect) × (before ++ after ≡ entries) × EndsPhaseLoosely class design (silent s) before f × (loose_run_from class design f after ≡ Some g)

abbrev IsOneEnd : (ℕ → ℕ) → Design → State → Effect → Type 0
IsOneEnd class design s g =
    (f : Effect) (entries others : List Entry) → EndsPhaseLoosely class design (silent s) entries f → EndsPhaseLoosely class design (silent s) others g → IsOneLooseNode class f g

module _ (class : ℕ → ℕ) (design : Design) (limits : Limits) (s : State) (order : IsInOrder s) (prefixed : Prefixed class design limits s) (g : Effect) (way : List LooseTransition) (some : way ≢ [])
    (events : TransitionsTakeEvents way) (goes : GoesLooselyTo class design limits s way g) (over : g.state.active ≡ []) (one_end : IsOneEnd class design s goes.effect) where
  some_active : s.active ≡ [] → ⊥
  some_active none = something_moves class design way s goes.effect some events goes.goes none

  way_over : goes.effect.state.active ≡ []
  way_over = empty_if goes.effect.state.active (alike_in-has_any class goes.effect.state.active g.state.active goes.one_node.1.active ∙ ap has_any over)

  -- a part up to where none is active leads to one loose node with the way
  meets : (part : List LooseTransition) (f : Effect) → TransitionsTakeEvents part → moves_from class design (silent s) part ≡ Some f → f.state.active ≡ [] → LeadToOneLooseNode class design limits s part way
  meets part f events' begins over' =
      let (entries, take, run) = come_of_events class design part (silent s) f order events' begins in
      let (others, take', run') = come_of_events class design way (silent s) goes.effect order events goes.goes in
      (f, goes.effect, begins, goes.goes, goes.timely, one_end f entries others (take, run, over') (take', run', way_over))

  -- what leads on has come there where it doesn't go on by events
  is_over : (f h : Effect) (entries : List Entry) (rest : List LooseTransition) (end : End) → All TakesEvent entries → loose_run_from class design (silent s) entries ≡ Some f → ChangesFirst rest → moves_from class design f rest ≡ Some h
      → EndsHere design limits h end → f.state.active ≡ []
  is_over f h entries [] end takes run first later here =
      let same : f ≡ h = cc in
      let (before, after, m, split, ends, run') = prefixed entries f end run (subst (λ (x : Effect). EndsHere design limits x end) {y = f} (sym same) here) in
      still_over class design after m f (takes_after before after (subst (λ es. All TakesEvent es) (sym split) takes)) ends.2 run'
  is_over f h entries (Process p ∷ rest) end takes run first later here = absurd first
  is_over f h entries (FirstOf c ∷ rest) end takes run first later here = absurd first
  is_over f h entries (Change entry ∷ rest) end takes run first later here =
      option_and_then_some (λ x. moves_from class design (joined f x) rest) (move class design f.state (Change entry)) h later
      (λ x at_x others. empty_if f.state.active (none_changed class design f.state entry x at_x))

  some_part : (part : List LooseTransition) (f : Effect) → moves_from class design (silent s) part ≡ Some f → f.state.active ≡ [] → 0 < length part
  some_part [] f begins over' =
      let same : silent s ≡ f = cc in
      absurd (some_active (ap (λ (x : Effect). x.state.active) same ∙ over'))
  some_part (t ∷ part) f begins over' = omega arith

  pub way_covers : CoverMoves class design limits s (way ∷ [])
  way_covers transition more h end all timely here =
      let (part, rest, same, events', first) = divided (transition ∷ more) in
      let (f, begins, later) = lead_through class design part rest (silent s) h (ap (moves_from class design (silent s)) same ∙ all) in
      let (entries, take, run) = come_of_events class design part (silent s) f order events' begins in
      let over' : f.state.active ≡ [] = is_over f h entries rest end take run first later here in
      (part, rest, some_part part f begins over', same, any_here (LeadToOneLooseNode class design limits s part) way (meets part f events' begins over'))

  -- no run ends at the start
  pub none_ends : (end : End) → EndsHere design limits (silent s) end → ⊥
  none_ends end here = some_active (is_over (silent s) (silent s) [] [] end (All-nil TakesEvent) refl tt refl here)

pub held_way_covers : HeldWayCovers
held_way_covers class design limits members block rank s g way like held some events goes over settle =
    let single : (p : ℕ) → HasOneEvent s p = like_has_one class design s like in
    let prefixed : Prefixed class design limits s = λ entries g end run here. held_is_prefix_here class design members block rank s single held limits entries g end run here in
    let settle' : SettleBetween design members block s goes.effect.state = settle_on design members block s g.state goes.effect.state (sym goes.one_node.1.store) settle in
    let one_end : IsOneEnd class design s goes.effect = λ f entries others ends ends'.
    held_ends_in_one_node class design members block rank (silent s) f goes.effect entries others like held ends ends' settle' in
    (way_covers class design limits s held.order prefixed g way some events goes over one_end, none_ends class design limits s held.order prefixed g way some events goes over one_end)
