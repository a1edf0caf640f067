-- The loose runs of a design, told by their transitions, as the runs of a search.
use Rattle.std.specs.Prelude.{◌≡◌, ℕ, List, [], Some}
use Rattle.std.specs.Option.{option_map_or}
use Rattle.model.specs.declared.end.Limits.{Limits}
use Rattle.model.specs.declared.end.End.{End}
use Rattle.model.specs.Design.{Design}
use Rattle.model.specs.Runs.{Effect}
use Rattle.model.specs.Texts.{EndsHere}
use Rattle.orders.specs.Alike.{IsInOrder}
use Rattle.loose.specs.declared.transition.LooseTransition.{LooseTransition}
use Rattle.loose.specs.LooseLaws.{IsOneLooseNode}
use Rattle.explore.specs.SearchedRuns.{Runs}
use Rattle.looseruns.specs.LooseMoves.{moves_run, AreTimelyMoves}

-- these transitions are taken from the start, in time, and this comes of them
abbrev pub ComesOfMoves : (ℕ → ℕ) → Design → Limits → List LooseTransition → Effect → Type 0
ComesOfMoves class design limits transitions e = (moves_run class design transitions ≡ Some e) × AreTimelyMoves limits transitions

-- The transitions are taken from the start, in time, and a run may end in this way where they lead, which is none by the most entries or
-- for want of memory.
abbrev pub MayEndLoosely : (ℕ → ℕ) → Design → Limits → List LooseTransition → End → Type 0
MayEndLoosely class design limits transitions end =
    (e : Effect) × ComesOfMoves class design limits transitions e × EndsHere design limits e end

-- the lines of transitions, and none of those that can't be taken
abbrev pub text_of_moves : (ℕ → ℕ) → Design → List LooseTransition → List ℕ
text_of_moves class design transitions = option_map_or (λ e. e.lines) (moves_run class design transitions) []

-- two loose runs in time have the same lines, and lead to states that are alike in classes
abbrev pub ComeToOneLooseNode : (ℕ → ℕ) → Design → Limits → List LooseTransition → List LooseTransition → Type 0
ComeToOneLooseNode class design limits i j =
    (e : Effect) × (f : Effect) × ComesOfMoves class design limits i e × ComesOfMoves class design limits j f × IsOneLooseNode class e f

-- A node stands at a loose run if it holds something that is one loose node with what comes of the run, whose events stand in the order of
-- their numbers.
pub record StandsLoosely {Node : Type 0} (Holds : Node → Effect → Type 0) (class : ℕ → ℕ) (design : Design) (limits : Limits) (node : Node) (transitions : List LooseTransition) : Type 0 where
  -- what comes of the run
  pub effect : Effect
  -- what the node holds
  pub held : Effect
  pub comes : ComesOfMoves class design limits transitions effect
  pub one_node : IsOneLooseNode class effect held
  pub in_order : IsInOrder held.state
  pub holds : Holds node held

-- the loose runs of a design, where this says what a node holds
abbrev pub loose_runs_of : {Node : Type 0} → (Node → Effect → Type 0) → (ℕ → ℕ) → Design → Limits → Runs LooseTransition Node End
loose_runs_of Holds class design limits =
    record {
      Ends = MayEndLoosely class design limits;
      text = text_of_moves class design;
      Alike = ComeToOneLooseNode class design limits;
      Within = λ _. Unit {0};
      Stands = StandsLoosely Holds class design limits;
    }
