-- A machine made again by its loose transitions.
use Rattle.std.specs.Prelude.{◌≡◌, ℕ, List, [], ◌++◌}
use Rattle.model.specs.declared.end.Limits.{Limits}
use Rattle.model.specs.States.{State}
use Rattle.model.specs.Runs.{Effect}
use Rattle.design.specs.Compiled.{Compiled, design_of}
use Rattle.design.specs.DesignInvariant.{controls_of}
use Rattle.loose.specs.declared.transition.LooseTransition.{LooseTransition}
use Rattle.loose.specs.Loose.{AlikeIn}
use Rattle.looseruns.specs.LooseMoves.{AreTimelyMoves}
use Rattle.looseruns.specs.LooseRuns.{ComesOfMoves}
use Rattle.looseruns.specs.LooseGoing.{GoesLooselyTo}
use Rattle.regions.specs.Machine.{MachineView, state_at}

-- A machine took these transitions: it is one of the same design, and it stands where they lead, up to the order of updates of different
-- classes.
pub record HasGoneBy (class : ℕ → ℕ) (old : MachineView) (moves : List LooseTransition) (new : MachineView) : Type 0 where
  -- where they lead
  pub effect : Effect
  pub goes : (limits : Limits) → AreTimelyMoves limits moves → GoesLooselyTo class (design_of old.code) limits (state_at old) moves effect
  pub state_is : state_at new ≡ effect.state
  pub code_is : new.code ≡ old.code

-- A machine took these transitions one after another, and their lines stand behind those that it had.
pub record HasTakenEach (class : ℕ → ℕ) (old : MachineView) (moves : List LooseTransition) (new : MachineView) : Type 0 where
  pub gone : HasGoneBy class old moves new
  pub lines_are : new.lines ≡ old.lines ++ gone.effect.lines

-- a machine took these transitions, and has no lines left
pub record HasGoneAgain (class : ℕ → ℕ) (old : MachineView) (moves : List LooseTransition) (new : MachineView) : Type 0 where
  pub gone : HasGoneBy class old moves new
  pub silent_is : new.lines ≡ []
  pub controls : new.core.controls ≡ controls_of new.code

-- Loose transitions lead from the start of a design's run, where they are in time, to what is alike in classes to a state.
abbrev pub LeadLooselyTo : (ℕ → ℕ) → Compiled → List LooseTransition → State → Type 0
LeadLooselyTo class code moves s =
    (limits : Limits) (e : Effect) → ComesOfMoves class (design_of code) limits moves e → AlikeIn class e.state s
