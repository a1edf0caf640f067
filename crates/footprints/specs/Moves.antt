-- The loose steps of actors as a system of moves, so that what holds of any such system holds of them.
use Rattle.std.specs.Prelude.{◌≡◌, ◌⊎◌, ℕ, true, false, List, [], ◌∷◌, ◌++◌, Some, None}
use Rattle.model.specs.declared.entry.Entry.{Entry}
use Rattle.model.specs.declared.entry.Entry.TheVariants.{Turn, Update}
use Rattle.model.specs.Design.{Design}
use Rattle.model.specs.Turns.{contains}
use Rattle.model.specs.States.{Action, State}
use Rattle.model.specs.Runs.{Effect, action_in, turn_of}
use Rattle.orders.specs.Alike.{IsInOrder}
use Rattle.loose.specs.declared.transition.LooseTransition.{LooseTransition}
use Rattle.loose.specs.declared.transition.LooseTransition.TheVariants.{Process}
use Rattle.loose.specs.Loose.{AlikeIn, loose_run_from, loose_transition_of_action}
use Rattle.traces.specs.Traces.{Moves, AreMoves, IsRunOfMoves, printed_by_steps}
use Rattle.traces.specs.Certificates.{HaveSwaps}
use Rattle.footprints.specs.Footprints.{Footprint, AreApart}
use Rattle.footprints.specs.FootprintLaws.{IsStepWith}

-- a state whose events stand in the order of their numbers
abbrev pub OrderedState : Type 0
OrderedState = (s : State) × IsInOrder s

-- an event of an actor is active
abbrev pub IsWaiting : (ℕ → ℕ) → State → LooseTransition → Type 0
IsWaiting class s actor =
    (number : ℕ) × (action : Action) × (action_in s.active number ≡ Some action)
    × (loose_transition_of_action class (Some action) ≡ Some actor)

-- an actor takes a loose step with this footprint, which leads to that state
abbrev pub IsMove : (ℕ → ℕ) → Design → State → LooseTransition → Footprint → State → Type 0
IsMove class design s actor f t =
    (entry : Entry) × (x : Effect) × IsStepWith class design s entry f x × (f.owner ≡ actor) × (x.state ≡ t)

-- a step gives an actor an event if it wakes the actor's process
abbrev pub GivesTo : Footprint → LooseTransition → Type 0
GivesTo f actor = (p : ℕ) × (actor ≡ Process p) × (contains f.woken p ≡ true)

-- the loose steps of a design, for classes of registers
abbrev pub loose_moves : (ℕ → ℕ) → Design → Moves OrderedState LooseTransition Footprint
loose_moves class design =
    record {
      Steps = λ s actor f t. IsMove class design s.0 actor f t.0;
      Waits = λ s actor. IsWaiting class s.0 actor;
      Alike = λ s t. AlikeIn class s.0 t.0;
      Apart = λ f g. AreApart f g;
      Gives = λ f actor. GivesTo f actor;
      Ends = λ f. f.finishes ≡ true;
      prints = λ f. f.lines;
    }

-- loose steps keep to all that moves keep to
abbrev pub LooseStepsAreMoves : Type 0
LooseStepsAreMoves = (class : ℕ → ℕ) (design : Design) → AreMoves (loose_moves class design)

-- of loose steps that are apart, one that is taken after the other may be taken first
abbrev pub LooseStepsHaveSwaps : Type 0
LooseStepsHaveSwaps = (class : ℕ → ℕ) (design : Design) → HaveSwaps (loose_moves class design)

-- an actor that waits takes a step where the run isn't finished, unless it is a process whose turn is too long
abbrev pub WaitingMoves : Type 0
WaitingMoves =
    (class : ℕ → ℕ) (design : Design) (s : State) (actor : LooseTransition) → IsInOrder s → s.finished ≡ false → IsWaiting class s actor
    → ((f : Footprint) × (t : State) × IsMove class design s actor f t)
    ⊎ ((p : ℕ) × (actor ≡ Process p) × (turn_of design s p ≡ None))

-- each of these entries takes an event
abbrev pub TakeEvents : List Entry → Type 0
TakeEvents [] = Unit {0}
TakeEvents (Turn number ∷ entries) = TakeEvents entries
TakeEvents (Update number ∷ entries) = TakeEvents entries
TakeEvents (_ ∷ entries) = ⊥

-- a run of moves is a loose run of as many entries, and prints the same
abbrev pub MovesAreRuns : Type 0
MovesAreRuns =
    (class : ℕ → ℕ) (design : Design) (e : Effect) (order : IsInOrder e.state) (w : List (LooseTransition × Footprint)) (t : OrderedState)
    → IsRunOfMoves (loose_moves class design) (e.state, order) w t
    → (entries : List Entry) × (g : Effect) × TakeEvents entries × (loose_run_from class design e entries ≡ Some g) × (g.state ≡ t.0)
    × (g.lines ≡ e.lines ++ printed_by_steps (λ f. f.lines) w)

-- a loose run of entries that take events is a run of moves, and prints the same
abbrev pub RunsAreMoves : Type 0
RunsAreMoves =
    (class : ℕ → ℕ) (design : Design) (e g : Effect) (order : IsInOrder e.state) (entries : List Entry) → TakeEvents entries
    → loose_run_from class design e entries ≡ Some g
    → (w : List (LooseTransition × Footprint)) × (t : OrderedState) × IsRunOfMoves (loose_moves class design) (e.state, order) w t
    × (t.0 ≡ g.state) × (g.lines ≡ e.lines ++ printed_by_steps (λ f. f.lines) w)
