-- Phases of combinational processes in loose runs.
use Rattle.std.specs.Prelude.{◌≡◌, ◌≢◌, ℕ, ◌≤◌, false, List, [], ◌∷◌, ◌++◌, length, Some}
use Rattle.std.specs.List.{All, Contains}
use Rattle.logic4.specs.Vector.{Vector}
use Rattle.model.specs.declared.entry.Entry.{Entry}
use Rattle.model.specs.declared.entry.Entry.TheVariants.{Turn, Update, ActivateInactive, ActivateNba, ActivateMonitor, Advance}
use Rattle.model.specs.declared.end.Limits.{Limits}
use Rattle.model.specs.declared.end.End.{End}
use Rattle.model.specs.Design.{Design}
use Rattle.model.specs.States.{Action, Evaluate, State}
use Rattle.model.specs.Runs.{Effect, action_in, AreTimely}
use Rattle.model.specs.Texts.{EndsHere}
use Rattle.orders.specs.Alike.{IsInOrder}
use Rattle.orders.specs.SearchLaws.{IsOneNode}
use Rattle.loose.specs.Loose.{has_earlier_of_class, loose_step, loose_run, loose_run_from}
use Rattle.loose.specs.LooseLaws.{IsOneLooseNode}
use Rattle.phases.specs.Phase.{Block, SettleBetween, IsPhase, TakesEvent}

-- these entries take events loosely up to the end of a phase, at which none is active
abbrev pub EndsPhaseLoosely : (ℕ → ℕ) → Design → Effect → List Entry → Effect → Type 0
EndsPhaseLoosely class design e entries f =
    All TakesEvent entries × (loose_run_from class design e entries ≡ Some f) × (f.state.active ≡ [])

-- Whichever events of a phase come first in loose runs, at its end nothing was printed, and there is one loose node, where its members
-- settle between its begin and one of its ends. It is even one node: a phase makes no updates, and at its end none is active, so no
-- order of updates is left to be forgotten.
abbrev pub LoosePhaseEndsInOneNode : Type 0
LoosePhaseEndsInOneNode =
    (class : ℕ → ℕ) (design : Design) (members : List ℕ) (block : ℕ → Block) (rank : ℕ → ℕ) (e f g : Effect) (entries others : List Entry)
    → IsInOrder e.state → IsPhase design e.state members block rank → EndsPhaseLoosely class design e entries f
    → EndsPhaseLoosely class design e others g → SettleBetween design members block e.state g.state
    → (f.lines ≡ e.lines) × IsOneNode f g × IsOneLooseNode class f g

-- an entry takes an active event that is due loosely: an evaluation, or an update before which none of its class is active
abbrev pub TakesDueEvent : (ℕ → ℕ) → State → Entry → Type 0
TakesDueEvent class s (Turn number) = (p : ℕ) × (action_in s.active number ≡ Some (Evaluate p))
TakesDueEvent class s (Update number) =
    (r : ℕ) × (v : Vector) × (action_in s.active number ≡ Some (Action.Update r v))
    × (has_earlier_of_class class (class r) s.active number ≡ false)
TakesDueEvent class s ActivateInactive = ⊥
TakesDueEvent class s ActivateNba = ⊥
TakesDueEvent class s ActivateMonitor = ⊥
TakesDueEvent class s (Advance time) = ⊥

-- Loose steps never get stuck in a phase: where an event is active, one is due, and each that is due may be taken. This prints nothing
-- and leads to a phase again.
abbrev pub LoosePhaseStepsOn : Type 0
LoosePhaseStepsOn =
    (class : ℕ → ℕ) (design : Design) (members : List ℕ) (block : ℕ → Block) (rank : ℕ → ℕ) (s : State) → IsInOrder s
    → IsPhase design s members block rank
    → (s.active ≢ [] → (entry : Entry) × TakesDueEvent class s entry)
    × ((entry : Entry) → TakesDueEvent class s entry
    → (f : Effect) × (loose_step class design s entry ≡ Some f) × (f.lines ≡ []) × IsPhase design f.state members block rank)

-- A phase ends: there is a number of events that is never passed, however they are taken. Wherever they lead to, nothing was printed, a
-- phase is there still, and it may be gone on to its end.
abbrev pub LoosePhaseCompletes : Type 0
LoosePhaseCompletes =
    (class : ℕ → ℕ) (design : Design) (members : List ℕ) (block : ℕ → Block) (rank : ℕ → ℕ) (e : Effect) → IsInOrder e.state
    → IsPhase design e.state members block rank
    → (most : ℕ)
    × ((entries : List Entry) (f : Effect) → All TakesEvent entries → loose_run_from class design e entries ≡ Some f
    → (length entries ≤ most) × (f.lines ≡ e.lines) × IsPhase design f.state members block rank
    × ((others : List Entry) × (g : Effect) × EndsPhaseLoosely class design f others g))

-- However a loose run goes on from a phase to an end, it first takes the events up to the end of the phase.
abbrev pub LoosePhaseIsPrefix : Type 0
LoosePhaseIsPrefix =
    (class : ℕ → ℕ) (design : Design) (limits : Limits) (members : List ℕ) (block : ℕ → Block) (rank : ℕ → ℕ) (e g : Effect)
    (entries : List Entry) (end : End) → IsInOrder e.state → IsPhase design e.state members block rank
    → loose_run_from class design e entries ≡ Some g → EndsHere design limits g end
    → (before : List Entry) × (after : List Entry) × (f : Effect) × (before ++ after ≡ entries) × EndsPhaseLoosely class design e before f
    × (loose_run_from class design f after ≡ Some g)

-- an effect is what comes of a loose journal
abbrev pub IsLooselyReachable : (ℕ → ℕ) → Design → Effect → Type 0
IsLooselyReachable class design e = (journal : List Entry) × (loose_run class design journal ≡ Some e)

-- a loose node is among those that were visited
abbrev pub IsLooselyVisited : (ℕ → ℕ) → List Effect → Effect → Type 0
IsLooselyVisited class nodes e = (f : Effect) × Contains nodes f × IsOneLooseNode class e f

-- The nodes cover the loose runs from one of them: whichever way a loose run goes on from it in time to an end, it comes to one of the
-- nodes on the way, by one entry or more.
abbrev pub CoversLoosely : (ℕ → ℕ) → Design → Limits → List Effect → Effect → Type 0
CoversLoosely class design limits nodes e =
    (entry : Entry) (entries : List Entry) (g : Effect) (end : End) → loose_run_from class design e (entry ∷ entries) ≡ Some g
    → AreTimely limits (entry ∷ entries) → EndsHere design limits g end
    → (before : List Entry) × (after : List Entry) × (f : Effect) × (before ≢ []) × (before ++ after ≡ entry ∷ entries)
    × (loose_run_from class design e before ≡ Some f) × IsLooselyVisited class nodes f

-- One way through a phase is enough, where the members settle between its begin and its end: the node at its end covers the loose runs
-- from its begin.
abbrev pub LoosePhaseCovers : Type 0
LoosePhaseCovers =
    (class : ℕ → ℕ) (design : Design) (limits : Limits) (nodes : List Effect) (members : List ℕ) (block : ℕ → Block) (rank : ℕ → ℕ)
    (e f : Effect) (entries : List Entry) → IsLooselyReachable class design e → IsPhase design e.state members block rank → entries ≢ []
    → EndsPhaseLoosely class design e entries f → SettleBetween design members block e.state f.state → IsLooselyVisited class nodes f
    → CoversLoosely class design limits nodes e
