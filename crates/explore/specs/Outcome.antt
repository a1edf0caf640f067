-- How a node was expanded, and how a search came to its end.
use Rattle.std.specs.Prelude.{◌≡◌, ◌⊎◌, ℕ, ◌≤◌, List, [], length, get_or, Option, Some, None, Result, Ok, Err, IfOk, IfSome}
use Rattle.explore.specs.Lineage.{ways}
use Rattle.explore.specs.Reach.{AreFollowedBefore, HasNode}
use Rattle.explore.specs.Search.{AreAllShown, AreCounted, AreShownWell, IsEndless, IsFollowed, IsShown, Serves}
use Rattle.explore.specs.SearchKept.{AreContinued, AreKeptWell, Grows}
use Rattle.explore.specs.SearchedRuns.{Runs}
use Rattle.explore.specs.declared.Bounds.{Bounds}
use Rattle.explore.specs.declared.Shown.{Shown}
use Rattle.explore.specs.declared.kept.KeptNodes.{KeptNodes}
use Rattle.explore.specs.declared.search.SearchOutcome.{SearchOutcome}
use Rattle.explore.specs.declared.stopped.Stopped.{Stopped}
use Rattle.explore.specs.declared.stopped.Stopped.TheVariants as stop

-- what stopped a search, which is a refusal of memory where it fails
abbrev pub stopped_of : {Move Fault : Type 0} → Result (SearchOutcome Move) Fault → Option Stopped
stopped_of (Ok outcome) = outcome.stopped
stopped_of (Err _) = Some stop.Memory

-- a time before which it left nothing out, if one is told: none where it fails
abbrev pub followed_before_of : {Move Fault : Type 0} → Result (SearchOutcome Move) Fault → Option ℕ
followed_before_of (Ok outcome) = outcome.followed_before
followed_before_of (Err _) = None

-- The node of the run with a number was expanded. What is kept grew, and nodes at which no run ends are continued. Where nothing was
-- left out, the run is followed by what is shown and by runs that were reached. Where a text or a node was, there are as many as there may be.
pub record IsExpanded {Move Node End : Type 0} (runs : Runs Move Node End) (HasKey : Node → List ℕ → Type 0) (time_of : Node → ℕ) (bounds : Bounds) (old new : KeptNodes Node Move) (shown : List (Shown Move End)) (number : ℕ) (left : Option Stopped) : Type 0 where
  pub well : AreKeptWell runs HasKey time_of bounds.nodes new
  pub continued : AreContinued runs new
  pub grows : Grows old new
  pub full : left ≡ Some stop.Shown → length shown ≡ bounds.shown
  pub most : left ≡ Some stop.Nodes → length (ways new.lineage) ≡ bounds.nodes
  pub followed : left ≡ None → IsFollowed runs (IsShown shown) (Serves runs) (ways new.lineage) (get_or (ways old.lineage) number [])

-- What a search of these runs came to, which showed this and reached so many nodes: no more of both than there may be, and as many where that
-- stopped it. Where nothing did, all is shown. Before the time that it tells nothing was left out, and the runs that it tells are such.
pub record IsSearched {Move Node End Fault : Type 0} (runs : Runs Move Node End) (time_of : Node → ℕ) (bounds : Bounds) (shown : List (Shown Move End)) (nodes : ℕ) (result : Result (SearchOutcome Move) Fault) : Type 0 where
  pub few : nodes ≤ bounds.nodes
  pub well : AreShownWell runs bounds.shown shown
  pub all : stopped_of result ≡ None → AreAllShown runs shown
  pub most : stopped_of result ≡ Some stop.Nodes → nodes ≡ bounds.nodes
  pub full : stopped_of result ≡ Some stop.Shown → length shown ≡ bounds.shown
  pub counted : AreCounted runs shown (stopped_of result) nodes
  pub before : (stopped_of result ≡ Some stop.Memory) ⊎ AreFollowedBefore runs time_of shown (followed_before_of result)
  pub endless : IfOk result (λ outcome. IfSome outcome.endless (λ moves. IsEndless runs moves.items))
  pub widest : IfOk result (λ outcome. IfSome outcome.widest (λ moves. HasNode runs moves.items))
