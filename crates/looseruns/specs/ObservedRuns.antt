-- The loose runs of a design, told by their transitions and seen by an observer, as the runs of a search.
use Rattle.std.specs.Prelude.{◌≡◌, ℕ, List, [], Some}
use Rattle.std.specs.Option.{option_map_or}
use Rattle.model.specs.declared.end.Limits.{Limits}
use Rattle.model.specs.Design.{Design}
use Rattle.model.specs.Runs.{Effect}
use Rattle.model.specs.Texts.{EndsHere}
use Rattle.orders.specs.Alike.{IsInOrder}
use Rattle.loose.specs.declared.transition.LooseTransition.{LooseTransition}
use Rattle.loose.specs.LooseLaws.{IsOneLooseNode}
use Rattle.explore.specs.SearchedRuns.{Runs}
use Rattle.looseruns.specs.LooseMoves.{AreTimelyMoves}
use Rattle.looseruns.specs.ObservedJournals.{Observer, SeenEnd}
use Rattle.looseruns.specs.ObservedMoves.{observed_moves_run}

-- these transitions are taken from the start, in time, and this comes of them and is seen at them
abbrev pub ComesObserved : (ℕ → ℕ) → Design → Limits → Observer → List LooseTransition → Effect → Type 0
ComesObserved class design limits observe transitions e = (observed_moves_run class design observe transitions ≡ Some e) × AreTimelyMoves limits transitions

-- A run may end in this way where this has come of it, which is none by the most entries or for want of memory, and this is what the observer
-- sees of the state there.
abbrev pub EndsHereObserved : Design → Limits → Observer → Effect → SeenEnd → Type 0
EndsHereObserved design limits observe e end = EndsHere design limits e end.end × (end.seen ≡ observe e.state)

-- the transitions are taken from the start, in time, and a run may end in this way where they lead
abbrev pub MayEndObserved : (ℕ → ℕ) → Design → Limits → Observer → List LooseTransition → SeenEnd → Type 0
MayEndObserved class design limits observe transitions end =
    (e : Effect) × ComesObserved class design limits observe transitions e × EndsHereObserved design limits observe e end

-- the observed text of transitions, and nothing of those that can't be taken
abbrev pub observed_text_of_moves : (ℕ → ℕ) → Design → Observer → List LooseTransition → List ℕ
observed_text_of_moves class design observe transitions = option_map_or (λ e. e.lines) (observed_moves_run class design observe transitions) []

-- two loose runs in time have the same observed text, and lead to states that are alike in classes
abbrev pub ComeToOneObservedNode : (ℕ → ℕ) → Design → Limits → Observer → List LooseTransition → List LooseTransition → Type 0
ComeToOneObservedNode class design limits observe i j =
    (e : Effect) × (f : Effect) × ComesObserved class design limits observe i e × ComesObserved class design limits observe j f × IsOneLooseNode class e f

-- A node stands at an observed loose run if it holds something that is one loose node with what comes of the run and is seen at it, whose
-- events stand in the order of their numbers.
pub record StandsObserved {Node : Type 0} (Holds : Node → Effect → Type 0) (class : ℕ → ℕ) (design : Design) (limits : Limits) (observe : Observer) (node : Node) (transitions : List LooseTransition) : Type 0 where
  -- what comes of the run and is seen at it
  pub effect : Effect
  -- what the node holds
  pub held : Effect
  pub comes : ComesObserved class design limits observe transitions effect
  pub one_node : IsOneLooseNode class effect held
  pub in_order : IsInOrder held.state
  pub holds : Holds node held

-- the loose runs of a design that an observer sees, where this says what a node holds
abbrev pub observed_runs_of : {Node : Type 0} → (Node → Effect → Type 0) → (ℕ → ℕ) → Design → Limits → Observer → Runs LooseTransition Node SeenEnd
observed_runs_of Holds class design limits observe =
    record {
      Ends = MayEndObserved class design limits observe;
      text = observed_text_of_moves class design observe;
      Alike = ComeToOneObservedNode class design limits observe;
      Within = λ _. Unit {0};
      Stands = StandsObserved Holds class design limits observe;
    }
