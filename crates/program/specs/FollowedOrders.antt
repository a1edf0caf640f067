-- Before which time a search left nothing out.
use Rattle.std.specs.Prelude.{◌≡◌, ◌⊎◌, ◌++◌, ℕ, List, length, Option}
use Rattle.std.specs.List.{All}
use Rattle.model.specs.declared.entry.Entry.{Entry}
use Rattle.model.specs.declared.end.End.{End}
use Rattle.model.specs.declared.end.Limits.{Limits}
use Rattle.design.specs.Compiled.{Compiled}
use Rattle.explore.specs.SearchedRuns.{Runs}
use Rattle.explore.specs.Reach.{AreFollowedBefore}
use Rattle.explore.specs.Search.{IsShown}
use Rattle.explore.specs.declared.Shown.{Shown}
use Rattle.loose.specs.declared.transition.LooseTransition.{LooseTransition}
use Rattle.looseruns.specs.ObservedJournals.{Observer, SeenEnd}
use Rattle.observers.specs.Observers.{observer_of}
use Rattle.observers.specs.declared.observing.Observing.{Observing}
use Rattle.lawful.specs.ArrangedNodes.{registers_seen, searched_arranged}
use Rattle.lawful.specs.LooseNodes.{searched_runs, time_of_node}
use Rattle.lawful.specs.declared.node.LooseNode.{LooseNode}

-- Of the loose runs by some classes nothing was left out before a time, and nothing at all where none is told. Their texts and ends, so far as they are shown, are told, unless
-- there are as many as may be.
pub record AreLooseRunsFollowed {E : Type 0} (runs_by : (ℕ → ℕ) → Runs LooseTransition LooseNode E) (IsTold : List ℕ → E → Type 0) (IsFull : Type 0) (before : Option ℕ) : Type 0 where
  pub class : ℕ → ℕ
  pub loosely : List (Shown LooseTransition E)
  pub followed : AreFollowedBefore (runs_by class) time_of_node loosely before
  pub told : All (λ s. IsTold s.text.items s.end) loosely ⊎ IsFull

-- so it is of the runs of a design, whose texts are these
abbrev pub AreTextsFollowed : Compiled → Limits → ℕ → List (Shown Entry End) → Option ℕ → Type 0
AreTextsFollowed code limits most texts before = AreLooseRunsFollowed (λ class. searched_runs code class limits) (IsShown texts) (length texts ≡ most) before

-- So it is of its runs by what an observer sees of them, whose waves are these.
pub record AreWavesFollowed (code : Compiled) (limits : Limits) (observe : Observer) (count most : ℕ) (waves : List (Shown Entry End)) (before : Option ℕ) : Type 0 where
  pub observing : Observing
  pub sees : observer_of observing ≡ observe
  pub count_is : registers_seen observing ≡ count
  pub followed : AreLooseRunsFollowed (λ class. searched_arranged code class limits observing) (λ text end. IsShown waves (text ++ end.seen) end.end) (length waves ≡ most) before
