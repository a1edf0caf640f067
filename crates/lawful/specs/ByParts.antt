-- What following ways by parts from a node comes to.
use Rattle.std.specs.Prelude.{◌≡◌, ℕ, ◌+◌, ◌≤◌, true, List, length, map}
use Rattle.std.specs.List.{All}
use Rattle.model.specs.declared.end.Limits.{Limits}
use Rattle.model.specs.declared.end.Why.TheVariants.{Finish}
use Rattle.model.specs.declared.end.End.{End}
use Rattle.model.specs.declared.end.End.TheVariants.{Stopped}
use Rattle.model.specs.States.{State}
use Rattle.model.specs.Runs.{HasLongTurn}
use Rattle.design.specs.Compiled.{Compiled, design_of}
use Rattle.regions.specs.Machine.{MachineView, state_at}
use Rattle.explore.specs.declared.Successor.{Successor}
use Rattle.explore.specs.declared.EndedPath.{EndedPath}
use Rattle.loose.specs.declared.transition.LooseTransition.{LooseTransition}
use Rattle.looseruns.specs.LooseMoves.{AreTimelyMoves}
use Rattle.looseruns.specs.LooseCover.{loose_ways_to}
use Rattle.looseruns.specs.ObservedEnding.{CoverToFinish}
use Rattle.looseparts.specs.FoundWays.{ways_in}
use Rattle.looseparts.specs.declared.parts.CoveringWays.{CoveringWays}
use Rattle.lawful.specs.LooseNodes.{IsLooseWayOn, IsLooseWayToEnd}
use Rattle.lawful.specs.declared.node.LooseNode.{LooseNode}

-- A way keeps within limits behind so many entries: its transitions are in time, and with them there are no more entries than a run may have.
abbrev pub IsWithin : Limits → ℕ → List LooseTransition → Type 0
IsWithin limits entries way = AreTimelyMoves limits way × (entries + length way ≤ limits.max_entries)

-- Ways by parts stand for all loose runs from where a machine stands: they cover whatever leads on, each of them keeps within the limits, and
-- nobody's turn is too long there.
pub record StandForAll (class : ℕ → ℕ) (limits : Limits) (m : MachineView) (found : CoveringWays) : Type 0 where
  pub cover : CoverToFinish class (design_of m.code) limits (state_at m) (ways_in found.ways.items) (ways_in found.ends.items)
  pub short : (p : ℕ) → HasLongTurn (design_of m.code) (state_at m) p → ⊥
  pub ways_within : All (IsWithin limits m.core.entries) (ways_in found.ways.items)
  pub ends_within : All (IsWithin limits m.core.entries) (ways_in found.ends.items)

-- within limits in whose time its transitions are, a successor's way leads on from a state
abbrev pub IsOnInTime : (ℕ → ℕ) → Compiled → State → Successor LooseNode LooseTransition → Type 0
IsOnInTime class code s next = (limits : Limits) → AreTimelyMoves limits next.moves.items → IsLooseWayOn class code limits s next

-- a way was taken from a state, and led to a successor
abbrev pub IsWayTaken : (ℕ → ℕ) → Compiled → State → List LooseTransition → Successor LooseNode LooseTransition → Type 0
IsWayTaken class code s way next = (next.moves.items ≡ way) × IsOnInTime class code s next

-- ways were taken from a state, and led to these successors
pub record AreWaysTaken (class : ℕ → ℕ) (code : Compiled) (s : State) (ways : List (List LooseTransition)) (successors : List (Successor LooseNode LooseTransition)) : Type 0 where
  pub ways_are : loose_ways_to successors ≡ ways
  pub on : All (IsOnInTime class code s) successors

-- the transitions of these ways to ends
abbrev pub moves_to_ends : List (EndedPath LooseTransition End) → List (List LooseTransition)
moves_to_ends ended = map (λ path. path.moves.items) ended

-- the run has finished at a node, and this is the way to that end
abbrev pub IsFinishedAt : Successor LooseNode LooseTransition → EndedPath LooseTransition End → Type 0
IsFinishedAt next ended =
    (next.node.machine.value.core.finished ≡ true) × (ended.moves.items ≡ next.moves.items) × (ended.printed.items ≡ next.printed.items)
    × (ended.end ≡ Stopped Finish)

-- the run has finished at an end, to which a way leads from a state within limits in whose time its transitions are
abbrev pub IsFinishedInTime : (ℕ → ℕ) → Compiled → State → EndedPath LooseTransition End → Type 0
IsFinishedInTime class code s ended =
    (ended.end ≡ Stopped Finish) × ((limits : Limits) → AreTimelyMoves limits ended.moves.items → IsLooseWayToEnd class code limits s ended)

-- The runs have finished at these successors, and these are the ways to those ends: the same ways, and each to an end, from whatever state they
-- lead on in time.
pub record AreEndsOf (successors : List (Successor LooseNode LooseTransition)) (ended : List (EndedPath LooseTransition End)) : Type 0 where
  pub ways_are : moves_to_ends ended ≡ loose_ways_to successors
  pub to : (class : ℕ → ℕ) (code : Compiled) (s : State) → All (IsOnInTime class code s) successors → All (IsFinishedInTime class code s) ended

-- ways were taken from a state to where the run has finished
pub record AreEndsTaken (class : ℕ → ℕ) (code : Compiled) (s : State) (ways : List (List LooseTransition)) (ended : List (EndedPath LooseTransition End)) : Type 0 where
  pub ways_are : moves_to_ends ended ≡ ways
  pub to : All (IsFinishedInTime class code s) ended

-- ways by parts were followed from a state: those on led to these successors, and those to ends to these ends
pub record AreFollowed (class : ℕ → ℕ) (code : Compiled) (s : State) (found : CoveringWays) (successors : List (Successor LooseNode LooseTransition)) (ended : List (EndedPath LooseTransition End)) : Type 0 where
  pub nexts : AreWaysTaken class code s (ways_in found.ways.items) successors
  pub ends : AreEndsTaken class code s (ways_in found.ends.items) ended
