-- Loose runs through a phase: they end in one node, which covers the loose runs from its begin.
use Rattle.std.proofs.Common.{◌≡◌, ◌≢◌, ℕ, ◌≤◌, true, List, [], ◌∷◌, ◌++◌, inl, inr, Some, None, refl, sym, ap, subst, ◌∙◌, arith}
use Rattle.std.specs.List.{All}
use Rattle.std.proofs.lemmas.List.Elements.{All-nil, All-cons, All-head, All-tail}
use Rattle.std.proofs.lemmas.Option.{option_and_then_some}
use Rattle.model.specs.declared.entry.Entry.{Entry}
use Rattle.model.specs.declared.entry.Entry.TheVariants.{Update, ActivateInactive, ActivateNba, ActivateMonitor, Advance}
use Rattle.model.specs.declared.end.Limits.{Limits}
use Rattle.model.specs.declared.end.End.{End}
use Rattle.model.specs.Design.{Design}
use Rattle.model.specs.Turns.{contains, short_turn}
use Rattle.model.specs.States.{Action, Evaluate, Event, Continuation, State, start}
use Rattle.model.specs.Runs.{Effect, silent, has_any, HasLongTurn, joined, turn_of}
use Rattle.model.specs.Laws.{evaluations_in}
use Rattle.model.specs.Texts.{EndsHere}
use Rattle.orders.specs.Alike.{Alike, IsInOrder}
use Rattle.orders.proofs.EventLists.{both_ways}
use Rattle.phases.proofs.Events.{active_at}
use Rattle.orders.proofs.GoingOn.{goes_on}
use Rattle.orders.proofs.SearchLaws.{then_some}
use Rattle.orders.proofs.StatesInOrder.{start_is_in_order}
use Rattle.orders.proofs.Stores.{append-none}
use Rattle.loose.specs.Loose.{loose_step, loose_run_from, IsPermittedLoosely}
use Rattle.loose.specs.LooseLaws.{IsOneLooseNode}
use Rattle.loose.proofs.ClassStates.{alike_is_alike_in, states_in-trans}
use Rattle.loose.proofs.LooseSteps.{from_loose, loose_step_keeps_order, loose_run_keeps_order}
use Rattle.phases.specs.Phase.{Block, IsTurnPending, IsPhase, TakesEvent}
use Rattle.phases.proofs.Members.{Standing}
use Rattle.phases.proofs.PhaseSteps.{Stays, AllStand, all_first}
use Rattle.phases.proofs.PhaseRuns.{Runs, ends_alike, none_in}
use Rattle.loosephases.specs.LoosePhase.{EndsPhaseLoosely, LoosePhaseEndsInOneNode, LoosePhaseIsPrefix, IsLooselyVisited, LoosePhaseCovers}
use Rattle.loosephases.proofs.LoosePhaseSteps.{loose_phase_steps}

-- what stays, stays

stays_same : (members : List ℕ) (block : ℕ → Block) (s : State) → Stays members block s s
stays_same members block s =
    record { time = refl; registers = refl; count = refl; others = λ q is. (refl, refl); inactive = refl; nonblocking = refl; monitor = refl; future_inactive = refl; future_nonblocking = refl; finished = refl; values = λ r none. refl }

stays_on : (members : List ℕ) (block : ℕ → Block) (s f g : State) → Stays members block s f → Stays members block f g → Stays members block s g
stays_on members block s f g h i =
    record {
      time = i.time ∙ h.time;
      registers = i.registers ∙ h.registers;
      count = i.count ∙ h.count;
      others = λ q is. ((i.others q is).0 ∙ (h.others q is).0, (i.others q is).1 ∙ (h.others q is).1);
      inactive = i.inactive ∙ h.inactive;
      nonblocking = i.nonblocking ∙ h.nonblocking;
      monitor = i.monitor ∙ h.monitor;
      future_inactive = i.future_inactive ∙ h.future_inactive;
      future_nonblocking = i.future_nonblocking ∙ h.future_nonblocking;
      finished = i.finished ∙ h.finished;
      values = λ r none. i.values r none ∙ h.values r none;
    }

-- a loose run in a phase

pub loose_phase_runs : (class : ℕ → ℕ) (design : Design) (members : List ℕ) (block : ℕ → Block) (rank : ℕ → ℕ) (start : State) (entries : List Entry) (e f : Effect) → IsInOrder e.state
    → IsPhase design e.state members block rank → AllStand design members block start e.state → All TakesEvent entries → loose_run_from class design e entries ≡ Some f → Runs design members block rank start e f
loose_phase_runs class design members block rank start [] e f order phase stand takes is =
    let same : e ≡ f = cc in
    subst (λ x. Runs design members block rank start e x) same (refl, order, phase, stays_same members block e.state, stand)
loose_phase_runs class design members block rank start (entry ∷ entries) e f order phase stand takes is =
    option_and_then_some (λ x. loose_run_from class design (joined e x) entries) (loose_step class design e.state entry) f is
    (λ g at_g later.
    let (lines, phase', stays, stand') = loose_phase_steps class design members block rank start e.state entry g order phase stand (All-head TakesEvent entry entries takes) at_g in
    let order' : IsInOrder g.state = loose_step_keeps_order class design e.state entry g order at_g in
    let (lines', order'', phase'', stays', stand'') = loose_phase_runs class design members block rank start entries (joined e g) f order' phase' stand' (All-tail TakesEvent entry entries takes) later in
    (lines' ∙ ap (λ ls. e.lines ++ ls) lines ∙ append-none e.lines, order'', phase'', stays_on members block e.state g.state f.state stays stays', stand''))

-- from its begin on
pub phase_runs_from : (class : ℕ → ℕ) (design : Design) (members : List ℕ) (block : ℕ → Block) (rank : ℕ → ℕ) (entries : List Entry) (e f : Effect) → IsInOrder e.state
    → IsPhase design e.state members block rank → All TakesEvent entries → loose_run_from class design e entries ≡ Some f → Runs design members block rank e.state e f
phase_runs_from class design members block rank entries e f order phase takes is =
    loose_phase_runs class design members block rank e.state entries e f order phase (all_first design members block rank e.state phase) takes is

-- at the end there is one node

pub loose_phase_ends_in_one_node : LoosePhaseEndsInOneNode
loose_phase_ends_in_one_node class design members block rank e f g entries others order phase (takes, goes, over) (takes', goes', over') settle =
    let (lines, order_f, phase_f, stays_f, stand_f) = phase_runs_from class design members block rank entries e f order phase takes goes in
    let (lines', order_g, phase_g, stays_g, stand_g) = phase_runs_from class design members block rank others e g order phase takes' goes' in
    let alike : Alike f.state g.state = ends_alike design members block rank e.state f.state g.state phase_f phase_g stays_f stays_g stand_f stand_g settle over over' in
    (lines, (lines ∙ sym lines', alike), (lines ∙ sym lines', alike_is_alike_in class f.state g.state alike))

-- a run from a phase comes to its end

pub no_long : (design : Design) (members : List ℕ) (block : ℕ → Block) (rank : ℕ → ℕ) (s : State) (p : ℕ) → IsInOrder s → IsPhase design s members block rank → HasLongTurn design s p → ⊥
no_long design members block rank s p order phase (n, at, long) =
    let active : 1 ≤ evaluations_in p s.active = active_at s n p order at in
    let member : contains members p ≡ true = phase.inside p active in
    short p member (phase.stands p member) active long
  where
    found : (p : ℕ) → contains members p ≡ true → IsTurnPending s p (block p) → turn_of design s p ≡ None → ⊥
    found p member (one, continuation) long =
        let (t, at_t, c) = (phase.blocks p member).turns s.store s.time in
        let is : turn_of design s p ≡ Some t = ap (λ (x : Continuation). short_turn design p x.remainder s.store s.time) continuation ∙ at_t in
        cc

    short : (p : ℕ) → contains members p ≡ true → Standing s p (block p) → 1 ≤ evaluations_in p s.active → turn_of design s p ≡ None → ⊥
    short p member (inl h) active long = found p member h long
    short p member (inr (none, continuation)) active long = omega (arith, active, none)

pub takes_event : (class : ℕ → ℕ) (design : Design) (s : State) (x : Event) (xs : List Event) (entry : Entry) (f : Effect) → s.active ≡ x ∷ xs → IsPermittedLoosely class design s entry f → TakesEvent entry
takes_event class design s x xs (Entry.Turn n) f is h = tt
takes_event class design s x xs (Update n) f is h = tt
takes_event class design s x xs ActivateInactive f is (none, some, same) = both_ways (has_any s.active) (ap has_any is) none
takes_event class design s x xs ActivateNba f is (none, none', some, same) = both_ways (has_any s.active) (ap has_any is) none
takes_event class design s x xs ActivateMonitor f is (none, none', none'', some, same) = both_ways (has_any s.active) (ap has_any is) none
takes_event class design s x xs (Advance time) f is (none, none', none'', none''', due, below, same) = both_ways (has_any s.active) (ap has_any is) none

-- a beginning of the entries takes the run to the end of the phase
abbrev Passes : (ℕ → ℕ) → Design → Effect → List Entry → Effect → Type 0
Passes class design e entries g =
    (before : List Entry) × (after : List Entry) × (f : Effect) × (before ++ after ≡ entries) × EndsPhaseLoosely class design e before f
    × (loose_run_from class design f after ≡ Some g)

passes_more : (class : ℕ → ℕ) (design : Design) (e y g : Effect) (entry : Entry) (entries : List Entry) → TakesEvent entry → loose_step class design e.state entry ≡ Some y
    → Passes class design (joined e y) entries g → Passes class design e (entry ∷ entries) g
passes_more class design e y g entry entries takes at_y (before, after, f, split, (all, goes, over), rest) = (
  entry ∷ before,
  after,
  f,
  ap (λ xs. entry ∷ xs) split,
  (All-cons TakesEvent entry before takes all, then_some (λ x. loose_run_from class design (joined e x) before) (loose_step class design e.state entry) y f at_y goes, over),
  rest,
)

passes : (class : ℕ → ℕ) (design : Design) (limits : Limits) (members : List ℕ) (block : ℕ → Block) (rank : ℕ → ℕ) (es : List Event) (entries : List Entry) (e g : Effect) (end : End) → e.state.active ≡ es
    → IsInOrder e.state → IsPhase design e.state members block rank → loose_run_from class design e entries ≡ Some g → EndsHere design limits g end → Passes class design e entries g
passes class design limits members block rank [] entries e g end active order phase is ends = ([], entries, e, refl, (All-nil TakesEvent, refl, active), is)
passes class design limits members block rank (x ∷ xs) [] e g end active order phase is ends =
    let same : e ≡ g = cc in
    let ends' : EndsHere design limits e end = rw same ends in
    absurd (goes_on design limits e.state x xs 0 end active phase.goes_on (λ p long. no_long design members block rank e.state p order phase long) ends'.0 ends'.1 ends'.2)
passes class design limits members block rank (x ∷ xs) (entry ∷ entries) e g end active order phase is ends =
    option_and_then_some (λ y. loose_run_from class design (joined e y) entries) (loose_step class design e.state entry) g is
    (λ f at_f later.
    let takes : TakesEvent entry = takes_event class design e.state x xs entry f active (from_loose class design e.state entry f at_f).1 in
    let (lines, phase', stays, stand) = loose_phase_steps class design members block rank e.state e.state entry f order phase (all_first design members block rank e.state phase) takes at_f in
    let order' : IsInOrder f.state = loose_step_keeps_order class design e.state entry f order at_f in
    passes_more class design e f g entry entries takes at_f (passes class design limits members block rank f.state.active entries (joined e f) g end refl order' phase' later ends))

pub loose_phase_is_prefix : LoosePhaseIsPrefix
loose_phase_is_prefix class design limits members block rank e g entries end order phase is ends =
    passes class design limits members block rank e.state.active entries e g end refl order phase is ends

-- where an event is taken, one is active

not_over : (class : ℕ → ℕ) (design : Design) (s : State) (entry : Entry) (f : Effect) → TakesEvent entry → IsPermittedLoosely class design s entry f → s.active ≡ [] → ⊥
not_over class design s (Entry.Turn n) f takes (p, turn, at, exact, short, same) none = none_in n (Evaluate p) s.active none at
not_over class design s (Update n) f takes (r, v, at, earliest, same) none = none_in n (Action.Update r v) s.active none at
not_over class design s ActivateInactive f takes h none = takes
not_over class design s ActivateNba f takes h none = takes
not_over class design s ActivateMonitor f takes h none = takes
not_over class design s (Advance time) f takes h none = takes

not_begun : (class : ℕ → ℕ) (design : Design) (entries : List Entry) (e f : Effect) → entries ≢ [] → EndsPhaseLoosely class design e entries f → e.state.active ≡ [] → ⊥
not_begun class design [] e f some ends none = some refl
not_begun class design (entry ∷ entries) e f some (takes, goes, over) none =
    option_and_then_some (λ x. loose_run_from class design (joined e x) entries) (loose_step class design e.state entry) f goes
    (λ g at_g later. not_over class design e.state entry g (All-head TakesEvent entry entries takes) (from_loose class design e.state entry g at_g).1 none)

pub not_empty : (class : ℕ → ℕ) (design : Design) (before : List Entry) (e f : Effect) → EndsPhaseLoosely class design e before f → (e.state.active ≡ [] → ⊥) → before ≢ []
not_empty class design [] e f (takes, goes, over) some none =
    let same : e ≡ f = cc in
    some (ap (λ x. x.state.active) same ∙ over)
not_empty class design (entry ∷ before) e f ends some none = cc

pub loosely_visited_too : (class : ℕ → ℕ) (nodes : List Effect) (e f : Effect) → IsOneLooseNode class e f → IsLooselyVisited class nodes f → IsLooselyVisited class nodes e
loosely_visited_too class nodes e f (lines, alike) (v, there, (lines', alike')) =
    (v, there, (lines ∙ lines', states_in-trans class e.state f.state v.state alike alike'))

pub loose_phase_covers : LoosePhaseCovers
loose_phase_covers class design limits nodes members block rank e f entries (journal, reached) phase some ends settle visited entry others g end goes timely over =
    let order : IsInOrder e.state = loose_run_keeps_order class design (silent (start design)) e journal (start_is_in_order design) reached in
    let (before, after, k, split, ends_k, rest) = loose_phase_is_prefix class design limits members block rank e g (entry ∷ others) end order phase goes over in
    let (lines, strict, one) = loose_phase_ends_in_one_node class design members block rank e k f before entries order phase ends_k ends settle in
    (before, after, k, not_empty class design before e k ends_k (not_begun class design entries e f some ends), split, ends_k.1, loosely_visited_too class nodes k f one visited)
