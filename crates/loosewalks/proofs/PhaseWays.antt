-- A way through a phase of combinational processes stands for all.
use Rattle.std.proofs.Common.{◌≡◌, ◌≢◌, ℕ, ◌<◌, false, List, [], ◌∷◌, ◌++◌, length, Some, None, refl, sym, ap, subst, ◌∙◌, arith}
use Rattle.std.specs.Prelude.{option_and_then, option_map}
use Rattle.std.specs.List.{All}
use Rattle.std.proofs.lemmas.List.Elements.{All-nil, All-cons}
use Rattle.std.proofs.lemmas.Option.{option_and_then_some}
use Rattle.model.specs.declared.entry.Entry.{Entry}
use Rattle.model.specs.declared.entry.Entry.TheVariants.{Turn, Update, ActivateInactive, ActivateNba, ActivateMonitor, Advance}
use Rattle.model.specs.declared.end.Limits.{Limits}
use Rattle.model.specs.declared.end.End.{End}
use Rattle.model.specs.Design.{Design}
use Rattle.model.specs.States.{Event, State}
use Rattle.model.specs.Runs.{Effect, silent, joined, has_any}
use Rattle.model.specs.Laws.{evaluates}
use Rattle.model.specs.Texts.{EndsHere}
use Rattle.orders.specs.Alike.{IsInOrder}
use Rattle.orders.proofs.SearchLaws.{then_some}
use Rattle.orders.proofs.GoingOn.{goes_on}
use Rattle.phases.specs.Phase.{Block, SettleBetween, IsPhase, TakesEvent}
use Rattle.loose.specs.declared.transition.LooseTransition.{LooseTransition}
use Rattle.loose.specs.declared.transition.LooseTransition.TheVariants.{Process, FirstOf, Change}
use Rattle.loose.specs.Loose.{updates_class, loose_step, loose_run_from, loose_transition_of}
use Rattle.loose.proofs.ClassLists.{alike_in-has_any}
use Rattle.loose.proofs.LooseSteps.{loose_step_keeps_order}
use Rattle.loosephases.specs.LoosePhase.{EndsPhaseLoosely}
use Rattle.loosephases.proofs.LoosePhaseRuns.{phase_runs_from, loose_phase_ends_in_one_node, no_long}
use Rattle.certificates.proofs.Prefixes.{none_where_changed}
use Rattle.heldways.proofs.HeldEnds.{settle_on}
use Rattle.looseruns.specs.LooseMoves.{first_number, move, moves_from}
use Rattle.looseruns.specs.LooseCover.{LeadToOneLooseNode, CoverMoves}
use Rattle.looseruns.specs.LooseGoing.{GoesLooselyTo}
use Rattle.looseruns.proofs.Moves.{move_is_loose_step}
use Rattle.loosewalks.specs.Sole.{StandsForAllLoosely}
use Rattle.loosewalks.specs.EventWays.{AreOfActors, PhaseWayStandsForAll}
use Rattle.loosewalks.proofs.SoleLooseWays.{one_is}
use Rattle.loosewalks.proofs.TimeKept.{events_keep_time}

-- transitions up to the first change of the regions

abbrev IsOfActor : LooseTransition → Type 0
IsOfActor (Process p) = Unit {0}
IsOfActor (FirstOf c) = Unit {0}
IsOfActor (Change entry) = ⊥

abbrev ChangesFirst : List LooseTransition → Type 0
ChangesFirst [] = Unit {0}
ChangesFirst (Process p ∷ more) = ⊥
ChangesFirst (FirstOf c ∷ more) = ⊥
ChangesFirst (Change entry ∷ more) = Unit {0}

abbrev Divided : List LooseTransition → Type 0
Divided transitions =
    (part : List LooseTransition) × (rest : List LooseTransition) × (part ++ rest ≡ transitions) × AreOfActors part × ChangesFirst rest

divided : (transitions : List LooseTransition) → Divided transitions
divided [] = ([], [], refl, tt, tt)
divided (Process p ∷ more) =
    let (part, rest, same, actors, first) = divided more in
    (Process p ∷ part, rest, ap (λ ts. Process p ∷ ts) same, actors, first)
divided (FirstOf c ∷ more) =
    let (part, rest, same, actors, first) = divided more in
    (FirstOf c ∷ part, rest, ap (λ ts. FirstOf c ∷ ts) same, actors, first)
divided (Change entry ∷ more) = ([], Change entry ∷ more, refl, tt, tt)

first_of : (t : LooseTransition) (ts : List LooseTransition) → AreOfActors (t ∷ ts) → IsOfActor t × AreOfActors ts
first_of (Process p) ts actors = (tt, actors)
first_of (FirstOf c) ts actors = (tt, actors)
first_of (Change entry) ts actors = absurd actors

-- they come of entries that take events

no_actor : (t : LooseTransition) (entry : Entry) → IsOfActor t → Some (Change entry) ≡ Some t → ⊥
no_actor (Process p) entry actor h = cc
no_actor (FirstOf c) entry actor h = cc
no_actor (Change other) entry actor h = actor

takes_event : (class : ℕ → ℕ) (s : State) (entry : Entry) (t : LooseTransition) → IsOfActor t → loose_transition_of class s entry ≡ Some t → TakesEvent entry
takes_event class s (Turn n) t actor is = tt
takes_event class s (Update n) t actor is = tt
takes_event class s ActivateInactive t actor is = no_actor t ActivateInactive actor is
takes_event class s ActivateNba t actor is = no_actor t ActivateNba actor is
takes_event class s ActivateMonitor t actor is = no_actor t ActivateMonitor actor is
takes_event class s (Advance time) t actor is = no_actor t (Advance time) actor is

abbrev ComeOfEvents : (ℕ → ℕ) → Design → Effect → Effect → Type 0
ComeOfEvents class design e f =
    (entries : List Entry) × All TakesEvent entries × (loose_run_from class design e entries ≡ Some f)

come_of_events : (class : ℕ → ℕ) (design : Design) (ts : List LooseTransition) (e f : Effect) → IsInOrder e.state → AreOfActors ts → moves_from class design e ts ≡ Some f → ComeOfEvents class design e f
come_of_events class design [] e f order actors is = ([], All-nil TakesEvent, is)
come_of_events class design (t ∷ ts) e f order actors is =
    let (actor, others) = first_of t ts actors in
    option_and_then_some (λ x. moves_from class design (joined e x) ts) (move class design e.state t) f is
    (λ x at_x later.
    let (entry, its, step) = move_is_loose_step class design e.state t x order at_x in
    let (entries, take, run) = come_of_events class design ts (joined e x) f (loose_step_keeps_order class design e.state entry x order step) others later in (
      entry ∷ entries,
      All-cons TakesEvent entry entries (takes_event class e.state entry t actor its) take,
      then_some (λ y. loose_run_from class design (joined e y) entries) (loose_step class design e.state entry) x f step run,
    ))

-- no time passes on such a way
pub way_time : (class : ℕ → ℕ) (design : Design) (limits : Limits) (s : State) (g : Effect) (way : List LooseTransition) → IsInOrder s → AreOfActors way → GoesLooselyTo class design limits s way g → g.state.time ≡ s.time
way_time class design limits s g way order actors goes =
    let (entries, take, run) = come_of_events class design way (silent s) goes.effect order actors goes.goes in
    sym goes.one_node.1.time ∙ events_keep_time class design entries (silent s) goes.effect order take run

-- what transitions lead to, in two parts
abbrev LeadThrough : (ℕ → ℕ) → Design → Effect → List LooseTransition → List LooseTransition → Effect → Type 0
LeadThrough class design e part rest g =
    (f : Effect) × (moves_from class design e part ≡ Some f) × (moves_from class design f rest ≡ Some g)

lead_through : (class : ℕ → ℕ) (design : Design) (part rest : List LooseTransition) (e g : Effect) → moves_from class design e (part ++ rest) ≡ Some g → LeadThrough class design e part rest g
lead_through class design [] rest e g run = (e, refl, run)
lead_through class design (t ∷ part) rest e g run =
    option_and_then_some (λ x. moves_from class design (joined e x) (part ++ rest)) (move class design e.state t) g run
    (λ x at_x later.
    let (f, first, last) = lead_through class design part rest (joined e x) g later in
    (f, then_some (λ y. moves_from class design (joined e y) part) (move class design e.state t) x f at_x first, last))

-- what is active where something moves

nothing_moves : (class : ℕ → ℕ) (design : Design) (s : State) (t : LooseTransition) (x : Effect) → IsOfActor t → s.active ≡ [] → move class design s t ≡ Some x → ⊥
nothing_moves class design s (Process p) x actor none is =
    let gone : move class design s (Process p) ≡ None = ap (λ es. option_and_then (loose_step class design s) (option_map Turn (first_number (evaluates p) es))) none in
    cc
nothing_moves class design s (FirstOf c) x actor none is =
    let gone : move class design s (FirstOf c) ≡ None = ap (λ es. option_and_then (loose_step class design s) (option_map Update (first_number (updates_class class c) es))) none in
    cc
nothing_moves class design s (Change entry) x actor none is = absurd actor

something_moves : (class : ℕ → ℕ) (design : Design) (ts : List LooseTransition) (s : State) (f : Effect) → ts ≢ [] → AreOfActors ts → moves_from class design (silent s) ts ≡ Some f → s.active ≡ [] → ⊥
something_moves class design [] s f some actors is none = some refl
something_moves class design (t ∷ ts) s f some actors is none =
    let (actor, others) = first_of t ts actors in
    option_and_then_some (λ x. moves_from class design (joined (silent s) x) ts) (move class design s t) f is (λ x at_x later. nothing_moves class design s t x actor none at_x)

not_empty : (e : Event) (es : List Event) → e ∷ es ≡ [] → ⊥
not_empty e es h = cc

pub empty_if : (es : List Event) → has_any es ≡ false → es ≡ []
empty_if [] h = refl
empty_if (e ∷ es) h = cc

none_changed : (class : ℕ → ℕ) (design : Design) (s : State) (entry : Entry) (x : Effect) → move class design s (Change entry) ≡ Some x → has_any s.active ≡ false
none_changed class design s (Turn n) x at_x = cc
none_changed class design s (Update n) x at_x = cc
none_changed class design s ActivateInactive x at_x = none_where_changed class design s ActivateInactive [] x tt at_x
none_changed class design s ActivateNba x at_x = none_where_changed class design s ActivateNba [] x tt at_x
none_changed class design s ActivateMonitor x at_x = none_where_changed class design s ActivateMonitor [] x tt at_x
none_changed class design s (Advance time) x at_x = none_where_changed class design s (Advance time) [] x tt at_x

module _ (class : ℕ → ℕ) (design : Design) (limits : Limits) (members : List ℕ) (block : ℕ → Block) (rank : ℕ → ℕ) where
  -- no run ends in a phase in which something is active
  none_ends : (s : State) (es : List Event) (end : End) → IsInOrder s → IsPhase design s members block rank → s.active ≡ es → (s.active ≡ [] → ⊥) → EndsHere design limits (silent s) end → ⊥
  none_ends s [] end order phase is some here = some is
  none_ends s (x ∷ xs) end order phase is some here =
      goes_on design limits s x xs 0 end is phase.goes_on (λ p long. no_long design members block rank s p order phase long) here.0 here.1 here.2

  -- what leads on from a phase has come to its end where it doesn't go on by events
  is_over : (f g : Effect) (rest : List LooseTransition) (end : End) → IsInOrder f.state → IsPhase design f.state members block rank → ChangesFirst rest → moves_from class design f rest ≡ Some g → EndsHere design limits g end → f.state.active ≡ []
  is_over f g [] end order phase first goes here =
      let same : f ≡ g = cc in
      ended f.state.active refl (subst (λ (x : Effect). EndsHere design limits x end) (sym same) here)
    where
      ended : (es : List Event) → f.state.active ≡ es → EndsHere design limits f end → es ≡ []
      ended [] is here = refl
      ended (x ∷ xs) is here = absurd (none_ends f.state (x ∷ xs) end order phase is (λ none. not_empty x xs (sym is ∙ none)) here)
  is_over f g (Process p ∷ rest) end order phase first goes here = absurd first
  is_over f g (FirstOf c ∷ rest) end order phase first goes here = absurd first
  is_over f g (Change entry ∷ rest) end order phase first goes here =
      option_and_then_some (λ x. moves_from class design (joined f x) rest) (move class design f.state (Change entry)) g goes
      (λ x at_x later. empty_if f.state.active (none_changed class design f.state entry x at_x))

  some_part : (s : State) (part : List LooseTransition) (f : Effect) → moves_from class design (silent s) part ≡ Some f → f.state.active ≡ [] → (s.active ≡ [] → ⊥) → 0 < length part
  some_part s [] f begins over some =
      let same : silent s ≡ f = cc in
      absurd (some (ap (λ (x : Effect). x.state.active) same ∙ over))
  some_part s (t ∷ part) f begins over some = omega arith

  module _ (s : State) (g : Effect) (way : List LooseTransition) (order : IsInOrder s) (phase : IsPhase design s members block rank) (some : way ≢ []) (actors : AreOfActors way) (goes : GoesLooselyTo class design limits s way g) (over : g.state.active ≡ []) where
    some_active : s.active ≡ [] → ⊥
    some_active none = something_moves class design way s goes.effect some actors goes.goes none

    way_over : goes.effect.state.active ≡ []
    way_over = empty_if goes.effect.state.active (alike_in-has_any class goes.effect.state.active g.state.active goes.one_node.1.active ∙ ap has_any over)

    -- a part up to the end of the phase leads to one loose node with the way
    meets : (part : List LooseTransition) (f : Effect) → AreOfActors part → moves_from class design (silent s) part ≡ Some f → f.state.active ≡ [] → SettleBetween design members block s g.state
        → LeadToOneLooseNode class design limits s part way
    meets part f actors' begins over' settle =
        let (entries, take, run) = come_of_events class design part (silent s) f order actors' begins in
        let (others, take', run') = come_of_events class design way (silent s) goes.effect order actors goes.goes in
        let first : EndsPhaseLoosely class design (silent s) entries f = (take, run, over') in
        let second : EndsPhaseLoosely class design (silent s) others goes.effect = (take', run', way_over) in
        let settle' : SettleBetween design members block s goes.effect.state = settle_on design members block s g.state goes.effect.state (sym goes.one_node.1.store) settle in
        let (lines, strict, node) = loose_phase_ends_in_one_node class design members block rank (silent s) f goes.effect entries others order phase first second settle' in
        (f, goes.effect, begins, goes.goes, goes.timely, node)

    phase_covers : SettleBetween design members block s g.state → CoverMoves class design limits s (way ∷ [])
    phase_covers settle transition more h end all timely here =
        let (part, rest, same, actors', first) = divided (transition ∷ more) in
        let (f, begins, later) = lead_through class design part rest (silent s) h (ap (moves_from class design (silent s)) same ∙ all) in
        let (entries, take, run) = come_of_events class design part (silent s) f order actors' begins in
        let (lines, order', phase', stays, stand) = phase_runs_from class design members block rank entries (silent s) f order phase take run in
        let over' : f.state.active ≡ [] = is_over f h rest end order' phase' first later here in
        (part, rest, some_part s part f begins over' some_active, same, one_is (LeadToOneLooseNode class design limits s part) way (meets part f actors' begins over' settle))

    phase_stands : SettleBetween design members block s g.state → StandsForAllLoosely class design limits s way
    phase_stands settle = record { covers = phase_covers settle; goes_on = λ end here. none_ends s s.active end order phase refl some_active here }

pub phase_way_stands_for_all : PhaseWayStandsForAll
phase_way_stands_for_all class design limits members block rank s g way order phase some actors goes over settle = phase_stands class design limits members block rank s g way order phase some actors goes over settle
