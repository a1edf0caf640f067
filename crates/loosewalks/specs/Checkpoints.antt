-- A walk of loose runs so far, and the machine at its checkpoint, to which it goes back where a way that it tried doesn't stand for all.
use Rattle.std.specs.Prelude.{◌≡◌, ℕ, ◌+◌, List, ◌++◌, length, IfSome}
use Rattle.model.specs.declared.end.Limits.{Limits}
use Rattle.model.specs.States.{State}
use Rattle.model.specs.Runs.{Effect}
use Rattle.design.specs.Compiled.{Compiled, design_of}
use Rattle.regions.specs.Machine.{MachineView, state_at}
use Rattle.loose.specs.declared.transition.LooseTransition.{LooseTransition}
use Rattle.looseruns.specs.LooseMoves.{AreTimelyMoves}
use Rattle.looseruns.specs.LooseGoing.{GoesLooselyTo}
use Rattle.loosewalks.specs.declared.checkpoint.Walk.{Walk}
use Rattle.loosewalks.specs.Sole.{IsLikeReached}
use Rattle.loosewalks.specs.LooseWalking.{HasWalkedLoosely, HasCountedMoves}

-- the moves of a walk are those up to its checkpoint, and behind them those since
abbrev pub moves_of : Walk → List LooseTransition
moves_of walk = walk.moves.items ++ walk.since.items

-- From a state, where a run had so many entries, a walk has come with these moves to where a machine stands.
pub record WalkHasComeTo (class : ℕ → ℕ) (limits : Limits) (s : State) (begun : ℕ) (m : MachineView) (moves : List LooseTransition) : Type 0 where
  pub walked : HasWalkedLoosely class limits s m moves
  pub counted : HasCountedMoves limits begun m moves

-- From a state, where a run had so many entries, a walk has come with all its moves to where its machine stands, and if it has a checkpoint,
-- it had come with the moves up to that to where its machine stood there.
pub record IsWalk (class : ℕ → ℕ) (limits : Limits) (s : State) (begun : ℕ) (m : MachineView) (walk : Walk) : Type 0 where
  pub here : WalkHasComeTo class limits s begun m (moves_of walk)
  pub there : IfSome walk.checkpoint (λ copy. WalkHasComeTo class limits s begun copy.value walk.moves.items)

-- From whichever state that is like a reached one, and with how many entries, a walk had come to where a machine stood, it has gone on to
-- where the machine stands.
abbrev pub WalkGoesOn : (ℕ → ℕ) → Limits → MachineView → Walk → MachineView → Walk → Type 0
WalkGoesOn class limits old before new after =
    (s : State) (begun : ℕ) → IsLikeReached class (design_of old.code) s → IsWalk class limits s begun old before → IsWalk class limits s begun new after

-- whatever walk has come to where a machine stands, has come with these moves to where another machine stands
abbrev pub HasCome : MachineView → Walk → MachineView → List LooseTransition → Type 0
HasCome m walk other moves =
    (class : ℕ → ℕ) (limits : Limits) (s : State) (begun : ℕ) → IsWalk class limits s begun m walk → WalkHasComeTo class limits s begun other moves

-- a machine, and that at the checkpoint of its walk, are of one design
pub record AreOfCode (code : Compiled) (m : MachineView) (walk : Walk) : Type 0 where
  pub here : m.code ≡ code
  pub there : IfSome walk.checkpoint (λ copy. copy.value.code ≡ code)

-- whatever design a machine is of, and that at the checkpoint of its walk, another machine is of it too
abbrev pub IsOfCodeToo : MachineView → Walk → MachineView → Type 0
IsOfCodeToo m walk other = (code : Compiled) → AreOfCode code m walk → other.code ≡ code

-- A machine took these transitions again: it is of the same design, and it stands where they lead if they are in time, up to the order of
-- updates of different classes, with the lines that they printed behind those that it had.
pub record HasTakenAgain (class : ℕ → ℕ) (old : MachineView) (moves : List LooseTransition) (new : MachineView) : Type 0 where
  -- where they lead
  pub effect : Effect
  pub goes : (limits : Limits) → AreTimelyMoves limits moves → GoesLooselyTo class (design_of old.code) limits (state_at old) moves effect
  pub state_is : state_at new ≡ effect.state
  pub lines_are : new.lines ≡ old.lines ++ effect.lines
  pub count : new.core.entries ≡ old.core.entries + length moves
  pub code_is : new.code ≡ old.code
