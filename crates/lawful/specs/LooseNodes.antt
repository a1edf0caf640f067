-- What a node of the search holds, and what comes of following the loose transitions from it.
use Rattle.std.specs.Prelude.{◌≡◌, ℕ, ◌<◌, ◌≤◌, true, List, [], ◌∷◌, Some, IsTrue}
use Rattle.std.specs.List.{All, Any, Contains}
use Rattle.std.specs.Option.{ForSome}
use Rattle.model.specs.declared.entry.Entry.{Entry}
use Rattle.model.specs.declared.end.Limits.{Limits}
use Rattle.model.specs.declared.end.Why.TheVariants.{TooLong}
use Rattle.model.specs.declared.end.End.{End}
use Rattle.model.specs.declared.end.End.TheVariants.{Stopped}
use Rattle.model.specs.States.{State}
use Rattle.model.specs.Runs.{Effect, silent, last_time, HasLongTurn}
use Rattle.model.specs.Texts.{EndsHere}
use Rattle.model.specs.Design.{Design}
use Rattle.design.specs.Compiled.{Compiled, design_of}
use Rattle.design.specs.DesignInvariant.{controls_of}
use Rattle.orders.specs.Alike.{IsInOrder}
use Rattle.runs.specs.Halting.{GoesOn}
use Rattle.regions.specs.Machine.{MachineView, state_at}
use Rattle.loose.specs.declared.transition.LooseTransition.{LooseTransition}
use Rattle.loose.specs.declared.transition.LooseTransition.TheVariants.{Process}
use Rattle.loose.specs.Loose.{loose_transition_of, loose_step}
use Rattle.explore.specs.declared.Successor.{Successor}
use Rattle.explore.specs.declared.EndedPath.{EndedPath}
use Rattle.explore.specs.declared.Expanded.{Expanded}
use Rattle.explore.specs.SearchedRuns.{Runs}
use Rattle.looseruns.specs.LooseMoves.{moves_from, IsTimelyMove}
use Rattle.looseruns.specs.LooseRuns.{loose_runs_of}
use Rattle.looseruns.specs.LooseCover.{loose_ways_to}
use Rattle.looseruns.specs.LooseGoing.{GoesLooselyTo}
use Rattle.looseruns.specs.ObservedEnding.{CoverToFinish}
use Rattle.looseparts.specs.EndingCover.{TellsWaysToEnds}
use Rattle.lawful.specs.declared.node.LooseNode.{LooseNode}

-- limits that a run may have: one entry at least, and no time past the last one
pub record AreBounded (limits : Limits) : Type 0 where
  pub some_entry : 0 < limits.max_entries
  pub until : ForSome limits.until (λ until. until ≤ last_time)

-- From where a machine stands a run may go on: its events stand in the order of their numbers, it has no lines, the limits leave room for an
-- entry, and one may be next in time.
pub record MayGoOn (limits : Limits) (m : MachineView) : Type 0 where
  pub order : IsInOrder (state_at m)
  pub silent_is : m.lines ≡ []
  pub some_entry : 0 < limits.max_entries
  pub goes_on : GoesOn limits (state_at m)

-- A node is ready: its machine is one of this design, with no lines left in it.
pub record IsReadyNode (code : Compiled) (node : LooseNode) : Type 0 where
  pub code_is : node.machine.value.code ≡ code
  pub controls : node.machine.value.core.controls ≡ controls_of code
  pub silent : node.machine.value.lines ≡ []

-- A node holds what has this state: it is ready, and its machine stands in the state.
pub record HoldsEffect (code : Compiled) (node : LooseNode) (e : Effect) : Type 0 where
  pub ready : IsReadyNode code node
  pub state_is : state_at node.machine.value ≡ e.state

-- the time of a node is that of its machine
abbrev pub time_of_node : LooseNode → ℕ
time_of_node node = node.machine.value.core.time

-- the loose runs of a design, at which nodes stand
abbrev pub searched_runs : Compiled → (ℕ → ℕ) → Limits → Runs LooseTransition LooseNode End
searched_runs code class limits = loose_runs_of (HoldsEffect code) class (design_of code) limits

-- A successor of a state: its transitions lead on loosely in time from there, what they print is told, and its node holds what they lead
-- to.
pub record IsLooseWayOn (class : ℕ → ℕ) (code : Compiled) (limits : Limits) (s : State) (next : Successor LooseNode LooseTransition) : Type 0 where
  pub effect : Effect
  pub goes : GoesLooselyTo class (design_of code) limits s next.moves.items effect
  pub printed : next.printed.items ≡ effect.lines
  pub holds : HoldsEffect code next.node effect

-- A way from a state to an end: its transitions lead on loosely in time from there, what they print is told, and a run may end so behind
-- them.
pub record IsLooseWayToEnd (class : ℕ → ℕ) (code : Compiled) (limits : Limits) (s : State) (ended : EndedPath LooseTransition End) : Type 0 where
  pub effect : Effect
  pub goes : GoesLooselyTo class (design_of code) limits s ended.moves.items effect
  pub printed : ended.printed.items ≡ effect.lines
  pub here : EndsHere (design_of code) limits effect ended.end

-- the end is among these, with nothing printed on the way to it
abbrev pub IsToldHere : List (EndedPath LooseTransition End) → End → Type 0
IsToldHere ended end = Any (λ way. (way.printed.items ≡ []) × (way.end ≡ end)) ended

-- an entry of this transition has a loose step
abbrev pub StepsLoosely : (ℕ → ℕ) → Compiled → State → LooseTransition → Type 0
StepsLoosely class code s transition =
    (entry : Entry) × (f : Effect) × (loose_transition_of class s entry ≡ Some transition) × (loose_step class (design_of code) s entry ≡ Some f)

-- A transition was followed from a state: where an entry of it has a loose step and it is in time, it is by itself the way to one of the
-- successors; where it is the turn of a process that isn't short, that end is told.
pub record IsFollowedIn (class : ℕ → ℕ) (code : Compiled) (limits : Limits) (s : State) (successors : List (Successor LooseNode LooseTransition)) (ended : List (EndedPath LooseTransition End)) (transition : LooseTransition) : Type 0 where
  pub steps : StepsLoosely class code s transition → IsTimelyMove limits transition → Contains (loose_ways_to successors) (transition ∷ [])
  pub stops : (p : ℕ) → transition ≡ Process p → HasLongTurn (design_of code) s p → IsToldHere ended (Stopped (TooLong p))

-- Ways were found for these transitions: each successor and each end is a way from the state, and each transition was followed.
pub record AreLooseWaysFor (class : ℕ → ℕ) (code : Compiled) (limits : Limits) (s : State) (transitions : List LooseTransition) (successors : List (Successor LooseNode LooseTransition)) (ended : List (EndedPath LooseTransition End)) : Type 0 where
  pub nexts : All (IsLooseWayOn class code limits s) successors
  pub ends : All (IsLooseWayToEnd class code limits s) ended
  pub followed : All (IsFollowedIn class code limits s successors ended) transitions

-- each of these ways leads from a state to where the run has finished
abbrev pub LeadToFinish : (ℕ → ℕ) → Design → State → List (List LooseTransition) → Type 0
LeadToFinish class design s ends =
    (way : List LooseTransition) (f : Effect) → Contains ends way → moves_from class design (silent s) way ≡ Some f → f.state.finished ≡ true

-- Nothing is left out: the ways to successors, and others to where the run has finished, cover whatever leads on from the state; what these
-- others print is told, and each end that a run may have here is told.
pub record AreAllLooseWays (class : ℕ → ℕ) (code : Compiled) (limits : Limits) (s : State) (successors : List (Successor LooseNode LooseTransition)) (ended : List (EndedPath LooseTransition End)) : Type 0 where
  -- the ways to where the run has finished
  pub ends : List (List LooseTransition)
  pub finish : LeadToFinish class (design_of code) s ends
  pub cover : CoverToFinish class (design_of code) limits s (loose_ways_to successors) ends
  pub ways_told : TellsWaysToEnds class (design_of code) s ends ended
  pub told : (end : End) → EndsHere (design_of code) limits (silent s) end → IsToldHere ended end

-- What comes of following the ways from a state: each successor and each end is a way from it, and where the answer is whole, nothing is left
-- out.
pub record IsExpandedAt (class : ℕ → ℕ) (code : Compiled) (limits : Limits) (s : State) (expanded : Expanded LooseNode LooseTransition End) : Type 0 where
  pub nexts : All (IsLooseWayOn class code limits s) expanded.successors.items
  pub ends : All (IsLooseWayToEnd class code limits s) expanded.ended.items
  pub all : IsTrue expanded.whole → AreAllLooseWays class code limits s expanded.successors.items expanded.ended.items
