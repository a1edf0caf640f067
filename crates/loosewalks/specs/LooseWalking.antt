-- A walk of loose runs by ways that stand for all.
use Rattle.std.specs.Prelude.{◌≡◌, ◌≢◌, ℕ, ◌+◌, ◌≤◌, List, [], ◌∷◌, ◌++◌, length, Some}
use Rattle.model.specs.declared.end.Limits.{Limits}
use Rattle.model.specs.States.{State}
use Rattle.model.specs.Runs.{Effect}
use Rattle.orders.specs.Alike.{IsInOrder}
use Rattle.phases.specs.Phase.{SettleBetween, TakesEvent}
use Rattle.design.specs.Compiled.{design_of}
use Rattle.combinational.specs.declared.network.Network.{Network}
use Rattle.regions.specs.Machine.{MachineView, state_at}
use Rattle.settling.specs.Settling.{block_at, IsPhaseOf}
use Rattle.loose.specs.declared.transition.LooseTransition.{LooseTransition}
use Rattle.loose.specs.Loose.{loose_transition_of}
use Rattle.looseruns.specs.LooseGoing.{GoesLooselyTo}
use Rattle.loosewalks.specs.declared.active.NamedEntry.{NamedEntry}
use Rattle.loosewalks.specs.Sole.{StandsForAllLoosely, IsLikeReached, IsOnlyLooseEntry}
use Rattle.loosewalks.specs.EventWays.{AreOfActors}

-- A walk has gone from a state: its machine stands where its moves lead in time to one loose node, with the lines that they printed; and
-- where it made any, they stand for all.
pub record HasWalkedLoosely (class : ℕ → ℕ) (limits : Limits) (s : State) (m : MachineView) (moves : List LooseTransition) : Type 0 where
  pub effect : Effect
  pub sole : moves ≢ [] → StandsForAllLoosely class (design_of m.code) limits s moves
  pub goes : GoesLooselyTo class (design_of m.code) limits s moves effect
  pub state_is : state_at m ≡ effect.state
  pub lines_are : m.lines ≡ effect.lines

-- A walk counts its moves, from so many entries at its beginning: its machine has taken as many more, and no more than a run may have
-- where there were none too many.
pub record HasCountedMoves (limits : Limits) (begun : ℕ) (m : MachineView) (moves : List LooseTransition) : Type 0 where
  pub count : m.core.entries ≡ begun + length moves
  pub within : begun ≤ limits.max_entries → m.core.entries ≤ limits.max_entries

-- From where a machine stood these moves lead in time to where it stands, with the lines that they printed behind those that it had.
pub record TakenLoosely (class : ℕ → ℕ) (limits : Limits) (old : MachineView) (moves : List LooseTransition) (new : MachineView) : Type 0 where
  pub effect : Effect
  pub goes : GoesLooselyTo class (design_of old.code) limits (state_at old) moves effect
  pub state_is : state_at new ≡ effect.state
  pub lines_are : new.lines ≡ old.lines ++ effect.lines

-- an entry has this transition, and is the only one that may be taken
pub record IsOnlyStep (class : ℕ → ℕ) (limits : Limits) (s : State) (named : NamedEntry) : Type 0 where
  pub only : IsOnlyLooseEntry class limits s named.entry
  pub transition_is : loose_transition_of class s named.entry ≡ Some named.transition

-- an entry takes an event, and has this transition
pub record IsEventStep (class : ℕ → ℕ) (s : State) (named : NamedEntry) : Type 0 where
  pub takes : TakesEvent named.entry
  pub transition_is : loose_transition_of class s named.entry ≡ Some named.transition

-- A machine took the events of these moves.
pub record TakesMoves (class : ℕ → ℕ) (limits : Limits) (old : MachineView) (moves : List LooseTransition) (new : MachineView) : Type 0 where
  pub actors : AreOfActors moves
  pub taken : IsInOrder (state_at old) → TakenLoosely class limits old moves new
  pub count : new.core.entries ≡ old.core.entries + length moves

-- a machine took the events of these moves, until none was active
pub record HasPassedBy (class : ℕ → ℕ) (limits : Limits) (old : MachineView) (moves : List LooseTransition) (new : MachineView) : Type 0 where
  pub takes : TakesMoves class limits old moves new
  pub over : (state_at new).active ≡ []

-- A machine passed through a phase of these members: it took the events of these moves, until none was active; and the members settle,
-- if it is the same time.
pub record HasPassedPhase (class : ℕ → ℕ) (limits : Limits) (old : MachineView) (network : Network) (members : List ℕ) (moves : List LooseTransition) (new : MachineView) : Type 0 where
  pub passed : HasPassedBy class limits old moves new
  pub settle :
      IsPhaseOf old.code (state_at old) network members → (state_at new).time ≡ (state_at old).time
      → SettleBetween (design_of old.code) members (block_at old.code network) (state_at old) (state_at new)

-- a machine went so by moves that stand for all, from a state that is like a reached one
pub record IsSoleLooseWay (class : ℕ → ℕ) (limits : Limits) (old : MachineView) (moves : List LooseTransition) (new : MachineView) : Type 0 where
  pub taken : IsInOrder (state_at old) → TakenLoosely class limits old moves new
  pub sole : IsLikeReached class (design_of old.code) (state_at old) → StandsForAllLoosely class (design_of old.code) limits (state_at old) moves
  pub count : new.core.entries ≡ old.core.entries + length moves

-- a machine took one entry of this transition, which stands for all, and has no more entries than the most
pub record HasStepped (class : ℕ → ℕ) (limits : Limits) (old : MachineView) (transition : LooseTransition) (new : MachineView) : Type 0 where
  pub way : IsSoleLooseWay class limits old (transition ∷ []) new
  pub few : new.core.entries ≤ limits.max_entries
