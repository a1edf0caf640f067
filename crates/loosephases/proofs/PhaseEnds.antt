-- Loose steps never get stuck in a phase, and it ends.
use Rattle.std.proofs.Common.{◌≡◌, ◌≢◌, ℕ, zero, suc, ◌+◌, ◌-◌, ◌<◌, ◌≤◌, Bool, true, false, eq-eqb, List, [], ◌∷◌, inl, inr, length, Some, refl, sym, ap, subst, ◌∙◌, ◌==◌, ◌||◌, if◌then◌else◌, arith}
use Rattle.std.specs.List.{All}
use Rattle.std.proofs.lemmas.Bool.{eqb-true}
use Rattle.std.proofs.lemmas.List.Elements.{All-nil, All-cons, All-head, All-tail}
use Rattle.std.proofs.lemmas.Option.{option_and_then_some}
use Rattle.logic4.specs.Vector.{Vector}
use Rattle.model.specs.declared.entry.Entry.{Entry}
use Rattle.model.specs.declared.entry.Entry.TheVariants.{Update, ActivateInactive, ActivateNba, ActivateMonitor, Advance}
use Rattle.model.specs.Design.{Design}
use Rattle.model.specs.Turns.{contains, short_turn}
use Rattle.model.specs.Turns as turns
use Rattle.model.specs.States.{Action, Evaluate, Event, Continuation, State, turned}
use Rattle.model.specs.Runs.{Effect, action_in, remainder_of, turn_of, turn_effect, update_effect, joined}
use Rattle.model.specs.Laws.{evaluations_in}
use Rattle.model.proofs.TurnLaws.{short_turn_found}
use Rattle.orders.specs.Alike.{IsInOrder, updates_in}
use Rattle.phases.proofs.Events.{active_at}
use Rattle.orders.proofs.Commuting.{turn_step}
use Rattle.orders.proofs.SearchLaws.{then_some}
use Rattle.loose.specs.Loose.{updates_of_class, loose_step, loose_run_from}
use Rattle.loose.proofs.ClassLists.{own_first, find_first}
use Rattle.loose.proofs.LooseSteps.{from_loose, to_loose, loose_step_keeps_order}
use Rattle.phases.specs.Phase.{Block, ComputesOutputs, IsTurnPending, IsPhase, TakesEvent}
use Rattle.phases.proofs.Members.{Standing}
use Rattle.phases.proofs.PhaseSteps.{all_first}
use Rattle.phases.proofs.PhaseRuns.{Runs}
use Rattle.loosephases.specs.LoosePhase.{EndsPhaseLoosely, TakesDueEvent, LoosePhaseStepsOn, LoosePhaseCompletes}
use Rattle.loosephases.proofs.Weights.{weight_in, lighter_updated, lighter_turned}
use Rattle.loosephases.proofs.LoosePhaseSteps.{loose_phase_steps}
use Rattle.loosephases.proofs.LoosePhaseRuns.{phase_runs_from}

-- an event that is due

due_first : (class : ℕ → ℕ) (s : State) (n : ℕ) (a : Action) (xs : List Event) → s.active ≡ (n, a) ∷ xs → IsInOrder s → (entry : Entry) × TakesDueEvent class s entry
due_first class s n (Evaluate p) xs is order =
    let own : (n == n) ≡ true = eq-eqb n n refl in
    let here : (if n == n then Some (Evaluate p) else action_in xs n) ≡ Some (Evaluate p) = rw own refl in
    (Entry.Turn n, (p, ap (λ es. action_in es n) is ∙ here))
due_first class s n (Action.Update r v) xs is order =
    let us : List (ℕ × Vector) = updates_of_class class (class r) xs in
    let first : updates_of_class class (class r) s.active ≡ (r, v) ∷ us = ap (updates_of_class class (class r)) is ∙ own_first class (class r) r v (updates_in xs) refl in
    let (k, at, earliest) = find_first class (class r) r 0 s.next_event v s.active us order.active first in
    (Update k, (r, v, at, earliest))

due_in : (class : ℕ → ℕ) (s : State) (es : List Event) → s.active ≡ es → IsInOrder s → es ≢ [] → (entry : Entry) × TakesDueEvent class s entry
due_in class s [] is order some = absurd (some refl)
due_in class s (x ∷ xs) is order some = due_first class s x.0 x.1 xs is order

-- it may be taken

pub pending_at : (s : State) (p : ℕ) (b : Block) → 1 ≤ evaluations_in p s.active → Standing s p b → IsTurnPending s p b
pending_at s p b active (inl h) = h
pending_at s p b active (inr (none, continuation)) = absurd (omega (arith, active, none))

-- the turn of a member
abbrev MemberTurns : Design → List ℕ → (ℕ → Block) → State → ℕ → Type 0
MemberTurns design members block s p =
    (t : turns.Turn) × (contains members p ≡ true) × IsTurnPending s p (block p) × ComputesOutputs (block p) t × (turn_of design s p ≡ Some t)

member_turns : (design : Design) (members : List ℕ) (block : ℕ → Block) (rank : ℕ → ℕ) (s : State) (n p : ℕ) → IsInOrder s → IsPhase design s members block rank → action_in s.active n ≡ Some (Evaluate p)
    → MemberTurns design members block s p
member_turns design members block rank s n p order phase at =
    let active : 1 ≤ evaluations_in p s.active = active_at s n p order at in
    let member : contains members p ≡ true = phase.inside p active in
    let pending : IsTurnPending s p (block p) = pending_at s p (block p) active (phase.stands p member) in
    let (t, at_t, c) = (phase.blocks p member).turns s.store s.time in
    (t, member, pending, c, ap (λ (x : Continuation). short_turn design p x.remainder s.store s.time) pending.1 ∙ at_t)

-- what comes of an event that is due
abbrev Leads : (ℕ → ℕ) → Design → List ℕ → (ℕ → Block) → (ℕ → ℕ) → State → Entry → Type 0
Leads class design members block rank s entry =
    (f : Effect) × (loose_step class design s entry ≡ Some f) × (f.lines ≡ []) × IsPhase design f.state members block rank

led : (class : ℕ → ℕ) (design : Design) (members : List ℕ) (block : ℕ → Block) (rank : ℕ → ℕ) (s : State) (entry : Entry) (f : Effect) → IsInOrder s → IsPhase design s members block rank → TakesEvent entry
    → loose_step class design s entry ≡ Some f → Leads class design members block rank s entry
led class design members block rank s entry f order phase takes is =
    let (lines, phase', stays, stand) = loose_phase_steps class design members block rank s s entry f order phase (all_first design members block rank s phase) takes is in
    (f, is, lines, phase')

due_leads : (class : ℕ → ℕ) (design : Design) (members : List ℕ) (block : ℕ → Block) (rank : ℕ → ℕ) (s : State) (entry : Entry) → IsInOrder s → IsPhase design s members block rank → TakesDueEvent class s entry
    → Leads class design members block rank s entry
due_leads class design members block rank s (Entry.Turn n) order phase (p, at) =
    let (t, member, pending, c, turn) = member_turns design members block rank s n p order phase at in
    led class design members block rank s (Entry.Turn n) (turn_effect s n p t) order phase tt (turn_step design s n p t phase.goes_on at turn)
due_leads class design members block rank s (Update n) order phase (r, v, at, first) =
    led class design members block rank s (Update n) (update_effect s n r v) order phase tt
    (to_loose class design s (Update n) (update_effect s n r v) (phase.goes_on, (r, v, at, first, refl)))
due_leads class design members block rank s ActivateInactive order phase due = absurd due
due_leads class design members block rank s ActivateNba order phase due = absurd due
due_leads class design members block rank s ActivateMonitor order phase due = absurd due
due_leads class design members block rank s (Advance time) order phase due = absurd due

pub loose_phase_steps_on : LoosePhaseStepsOn
loose_phase_steps_on class design members block rank s order phase =
    (λ some. due_in class s s.active refl order some, λ entry due. due_leads class design members block rank s entry order phase due)

-- each event makes what is active weigh less

highest : (ms : List ℕ) (rank : ℕ → ℕ) → (most : ℕ) × ((p : ℕ) → contains ms p ≡ true → rank p < most)
highest [] rank = (0, λ p h. nothing_in p h)
  where
    nothing_in : (p : ℕ) → contains [] p ≡ true → rank p < 0
    nothing_in p h = cc
highest (m ∷ ms) rank =
    let (most, below) = highest ms rank in
    (rank m + 1 + most, λ p h. either p most (m == p) refl h (below p))
  where
    either : (p most : ℕ) (here : Bool) → (m == p) ≡ here → (here || contains ms p) ≡ true → (contains ms p ≡ true → rank p < most) → rank p < rank m + 1 + most
    either p most true here h below =
        let same : rank m ≡ rank p = ap rank (eqb-true m p here) in
        omega (arith, same)
    either p most false here h below = omega (arith, below h)

-- a number is one more than another
one_under : (a b : ℕ) → a < b → (c : ℕ) × (suc c ≡ b - a)
one_under a b h = found (b - a) refl (omega (arith, h))
  where
    found : (d : ℕ) → d ≡ b - a → 1 ≤ d → (c : ℕ) × (suc c ≡ b - a)
    found zero is some = absurd (omega (arith, some))
    found (suc c) is some = (c, is)

lighter : (class : ℕ → ℕ) (design : Design) (members : List ℕ) (block : ℕ → Block) (rank : ℕ → ℕ) (most : ℕ) (s : State) (entry : Entry) (f : Effect) → IsInOrder s → IsPhase design s members block rank
    → ((p : ℕ) → contains members p ≡ true → rank p < most) → TakesEvent entry → loose_step class design s entry ≡ Some f → weight_in members rank most f.state.active < weight_in members rank most s.active
lighter class design members block rank most s (Entry.Turn n) f order phase below takes is =
    let (going, (p, turn, at, exact, short, same)) = from_loose class design s (Entry.Turn n) f is in
    let (t, member, pending, c, found) = member_turns design members block rank s n p order phase at in
    let both : Some t ≡ Some turn = sym found ∙ short_turn_found design p (remainder_of s p) s.store s.time turn exact short in
    let one : turn ≡ t = cc in
    let (under, height) = one_under (rank p) most (below p member) in
    let less : weight_in members rank most (turned s n p t).active < weight_in members rank most s.active =
    lighter_turned design members block rank most under s n p t order phase at member pending c (below p member) height in
    subst (λ (x : Effect). weight_in members rank most x.state.active < weight_in members rank most s.active) (sym same)
    (subst (λ (x : turns.Turn). weight_in members rank most (turned s n p x).active < weight_in members rank most s.active) (sym one) less)
lighter class design members block rank most s (Update n) f order phase below takes is =
    let (going, (r, v, at, first, same)) = from_loose class design s (Update n) f is in
    subst (λ (x : Effect). weight_in members rank most x.state.active < weight_in members rank most s.active) (sym same) (lighter_updated members rank most s n r v order at)
lighter class design members block rank most s ActivateInactive f order phase below takes is = absurd takes
lighter class design members block rank most s ActivateNba f order phase below takes is = absurd takes
lighter class design members block rank most s ActivateMonitor f order phase below takes is = absurd takes
lighter class design members block rank most s (Advance time) f order phase below takes is = absurd takes

-- so a run is no longer than the weight
bounded : (class : ℕ → ℕ) (design : Design) (members : List ℕ) (block : ℕ → Block) (rank : ℕ → ℕ) (most : ℕ) (entries : List Entry) (e f : Effect) → IsInOrder e.state → IsPhase design e.state members block rank
    → ((p : ℕ) → contains members p ≡ true → rank p < most) → All TakesEvent entries → loose_run_from class design e entries ≡ Some f → length entries ≤ weight_in members rank most e.state.active
bounded class design members block rank most [] e f order phase below takes is = omega arith
bounded class design members block rank most (entry ∷ entries) e f order phase below takes is =
    option_and_then_some (λ x. loose_run_from class design (joined e x) entries) (loose_step class design e.state entry) f is
    (λ g at_g later.
    let takes' = All-head TakesEvent entry entries takes in
    let (lines, phase', stays, stand) = loose_phase_steps class design members block rank e.state e.state entry g order phase (all_first design members block rank e.state phase) takes' at_g in
    let less : weight_in members rank most g.state.active < weight_in members rank most e.state.active = lighter class design members block rank most e.state entry g order phase below takes' at_g in
    let rest : length entries ≤ weight_in members rank most g.state.active =
    bounded class design members block rank most entries (joined e g) f (loose_step_keeps_order class design e.state entry g order at_g) phase' below (All-tail TakesEvent entry entries takes) later in
    omega (arith, less, rest))

-- and there is a way to the end

abbrev Ending : (ℕ → ℕ) → Design → Effect → Type 0
Ending class design e = (entries : List Entry) × (f : Effect) × EndsPhaseLoosely class design e entries f

takes_due : (class : ℕ → ℕ) (s : State) (entry : Entry) → TakesDueEvent class s entry → TakesEvent entry
takes_due class s (Entry.Turn n) due = tt
takes_due class s (Update n) due = tt
takes_due class s ActivateInactive due = due
takes_due class s ActivateNba due = due
takes_due class s ActivateMonitor due = due
takes_due class s (Advance time) due = due

ends_more : (class : ℕ → ℕ) (design : Design) (e y : Effect) (entry : Entry) → TakesEvent entry → loose_step class design e.state entry ≡ Some y → Ending class design (joined e y) → Ending class design e
ends_more class design e y entry takes at_y (entries, f, (all, goes, over)) = (
  entry ∷ entries,
  f,
  (All-cons TakesEvent entry entries takes all, then_some (λ x. loose_run_from class design (joined e x) entries) (loose_step class design e.state entry) y f at_y goes, over),
)

ending : (class : ℕ → ℕ) (design : Design) (members : List ℕ) (block : ℕ → Block) (rank : ℕ → ℕ) (most k : ℕ) (es : List Event) (e : Effect) → e.state.active ≡ es → IsInOrder e.state
    → IsPhase design e.state members block rank → ((p : ℕ) → contains members p ≡ true → rank p < most) → weight_in members rank most e.state.active ≤ k → Ending class design e
ending class design members block rank most k [] e active order phase below weight = ([], e, (All-nil TakesEvent, refl, active))
ending class design members block rank most zero (x ∷ xs) e active order phase below weight =
    let (entry, due) = due_first class e.state x.0 x.1 xs active order in
    let (y, at_y, lines, phase') = due_leads class design members block rank e.state entry order phase due in
    let less : weight_in members rank most y.state.active < weight_in members rank most e.state.active =
    lighter class design members block rank most e.state entry y order phase below (takes_due class e.state entry due) at_y in
    absurd (omega (arith, less, weight))
ending class design members block rank most (suc k) (x ∷ xs) e active order phase below weight =
    let (entry, due) = due_first class e.state x.0 x.1 xs active order in
    let (y, at_y, lines, phase') = due_leads class design members block rank e.state entry order phase due in
    let less : weight_in members rank most y.state.active < weight_in members rank most e.state.active =
    lighter class design members block rank most e.state entry y order phase below (takes_due class e.state entry due) at_y in
    ends_more class design e y entry (takes_due class e.state entry due) at_y
    (ending class design members block rank most k y.state.active (joined e y) refl (loose_step_keeps_order class design e.state entry y order at_y) phase' below (omega (arith, less, weight)))

pub loose_phase_completes : LoosePhaseCompletes
loose_phase_completes class design members block rank e order phase =
    let (most, below) = highest members rank in (
      weight_in members rank most e.state.active,
      λ entries f takes is.
          let run : Runs design members block rank e.state e f = phase_runs_from class design members block rank entries e f order phase takes is in
          let (lines, order', phase', stays, stand) = run in (
            bounded class design members block rank most entries e f order phase below takes is,
            lines,
            phase',
            ending class design members block rank most (weight_in members rank most f.state.active) f.state.active f refl order' phase' below (omega arith),
          ),
    )
