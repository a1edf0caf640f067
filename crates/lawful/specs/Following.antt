-- What following one loose transition from a node comes to.
use Rattle.std.specs.Prelude.{◌≡◌, ℕ, List, [], ◌∷◌, ◌++◌}
use Rattle.model.specs.declared.end.Limits.{Limits}
use Rattle.model.specs.declared.end.Why.TheVariants.{TooLong}
use Rattle.model.specs.declared.end.End.{End}
use Rattle.model.specs.declared.end.End.TheVariants.{Stopped}
use Rattle.model.specs.States.{State}
use Rattle.model.specs.Runs.{HasLongTurn}
use Rattle.design.specs.Compiled.{Compiled, design_of}
use Rattle.explore.specs.declared.Successor.{Successor}
use Rattle.explore.specs.declared.EndedPath.{EndedPath}
use Rattle.loose.specs.declared.transition.LooseTransition.{LooseTransition}
use Rattle.loose.specs.declared.transition.LooseTransition.TheVariants.{Process}
use Rattle.looseruns.specs.LooseMoves.{IsTimelyMove}
use Rattle.regions.specs.Machine.{MachineView, state_at}
use Rattle.lawful.specs.LooseNodes.{IsReadyNode, IsLooseWayOn, IsLooseWayToEnd, StepsLoosely}
use Rattle.lawful.specs.declared.node.LooseNode.{LooseNode}
use Rattle.lawful.specs.declared.expand.Way.{Way}
use Rattle.lawful.specs.declared.expand.Way.TheVariants.{On, Long, Past}

-- the way to an end tells of the turn of a process, with no transition and nothing printed on the way to it
pub record TellsTurn (transition : LooseTransition) (ended : EndedPath LooseTransition End) : Type 0 where
  pub process : ℕ
  pub is_turn : transition ≡ Process process
  pub here : ended.moves.items ≡ []
  pub silent : ended.printed.items ≡ []
  pub end_is : ended.end ≡ Stopped (TooLong process)

-- it tells of a turn that isn't short
pub record TellsLong (code : Compiled) (s : State) (transition : LooseTransition) (ended : EndedPath LooseTransition End) : Type 0 where
  pub told : TellsTurn transition ended
  pub long : HasLongTurn (design_of code) s told.process

-- What a transition leads to from a state: a node, by the transition alone; the end of a run whose turn is too long; or nothing, since it
-- isn't in time.
abbrev pub IsWayBy : (ℕ → ℕ) → Compiled → Limits → State → LooseTransition → Way → Type 0
IsWayBy class code limits s transition (On next) =
    IsLooseWayOn class code limits s next × (next.moves.items ≡ transition ∷ []) × StepsLoosely class code s transition
IsWayBy class code limits s transition (Long ended) = IsLooseWayToEnd class code limits s ended × TellsLong code s transition ended
IsWayBy class code limits s transition Past = IsTimelyMove limits transition → ⊥

-- a way was added to the successors, or to the ends
abbrev pub IsAdded : Way → List (Successor LooseNode LooseTransition) → List (EndedPath LooseTransition End) → List (Successor LooseNode LooseTransition) → List (EndedPath LooseTransition End) → Type 0
IsAdded (On next) successors ended more all = (more ≡ successors ++ next ∷ []) × (all ≡ ended)
IsAdded (Long end) successors ended more all = (more ≡ successors) × (all ≡ ended ++ end ∷ [])
IsAdded Past successors ended more all = (more ≡ successors) × (all ≡ ended)

-- There is one successor, at the node of a machine, with the lines that are left in it, by these transitions.
abbrev pub IsArrived : MachineView → List LooseTransition → List (Successor LooseNode LooseTransition) → Type 0
IsArrived m moves xs =
    (next : Successor LooseNode LooseTransition) × (xs ≡ next ∷ []) × (next.moves.items ≡ moves) × (next.printed.items ≡ m.lines) × IsReadyNode m.code next.node
    × (state_at next.node.machine.value ≡ state_at m)
