-- How far in time a search came.
use Rattle.std.specs.Prelude.{◌≡◌, ◌⊎◌, ℕ, ◌<◌, ◌≤◌, min, List, [], length, get_or, Option, Some, None}
use Rattle.std.specs.List.{All}
use Rattle.explore.specs.SearchedRuns.{Runs}
use Rattle.explore.specs.Search.{IsShown, Serves, IsFollowed}
use Rattle.explore.specs.declared.Shown.{Shown}
use Rattle.explore.specs.declared.stopped.Stopped.{Stopped}

-- the earlier of a time, if there is one, and another
abbrev pub earliest : Option ℕ → ℕ → ℕ
earliest (Some told) time = min told time
earliest None time = time

-- the least time of nodes from which something was left out, and of one at this time from which something was, or nothing
abbrev pub earliest_left : Option ℕ → Option Stopped → ℕ → Option ℕ
earliest_left told (Some stopped) time = Some (earliest told time)
earliest_left told None time = told

-- a time is told, and it isn't behind this one
abbrev pub IsNoLater : Option ℕ → ℕ → Type 0
IsNoLater (Some told) time = told ≤ time
IsNoLater None time = ⊥

-- these are the moves of one of the runs
abbrev pub IsWayAmong : {Move : Type 0} → List (List Move) → List Move → Type 0
IsWayAmong ways moves = (k : ℕ) × (k < length ways) × (moves ≡ get_or ways k [])

-- a node stands at the run
abbrev pub HasNode : {Move Node End : Type 0} → Runs Move Node End → List Move → Type 0
HasNode {Move} {Node} runs run = (node : Node) × runs.Stands node run

-- a node stands at the run, and this is its time
abbrev pub IsAtTime : {Move Node End : Type 0} → Runs Move Node End → (Node → ℕ) → List Move → ℕ → Type 0
IsAtTime {Move} {Node} runs time_of run time = (node : Node) × runs.Stands node run × (time ≡ time_of node)

-- there are as many times as runs, and each is that of a node which stands at its run
pub record AreTimed {Move Node End : Type 0} (runs : Runs Move Node End) (time_of : Node → ℕ) (ways : List (List Move)) (times : List ℕ) : Type 0 where
  pub as_many : length times ≡ length ways
  pub each : (k : ℕ) → k < length ways → IsAtTime runs time_of (get_or ways k []) (get_or times k 0)

-- from a node that stands at the run something may have been left out, and its time isn't before the one that is told
abbrev pub IsLeftOpen : {Move Node End : Type 0} → Runs Move Node End → (Node → ℕ) → Option ℕ → List Move → Type 0
IsLeftOpen {Move} {Node} runs time_of told run = (node : Node) × runs.Stands node run × IsNoLater told (time_of node)

-- a run is followed by what is shown and by runs that were reached, or it was left open
abbrev pub IsFollowedOrOpen : {Move Node End : Type 0} → Runs Move Node End → (Node → ℕ) → List (Shown Move End) → Option ℕ → List (List Move) → List Move → Type 0
IsFollowedOrOpen runs time_of shown told reached run = IsFollowed runs (IsShown shown) (Serves runs) reached run ⊎ IsLeftOpen runs time_of told run

-- Before a time nothing was left out: of the runs that were reached, beginning with the one that has no moves, each is followed by what is shown and
-- by these runs, or a node stands at it whose time isn't before that one. Where no time is told, each is followed.
pub record AreFollowedBefore {Move Node End : Type 0} (runs : Runs Move Node End) (time_of : Node → ℕ) (shown : List (Shown Move End)) (told : Option ℕ) : Type 0 where
  pub reached : List (List Move)
  pub starts : (0 < length reached) × (get_or reached 0 [] ≡ [])
  pub each : All (IsFollowedOrOpen runs time_of shown told reached) reached
