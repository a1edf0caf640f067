-- What a search of lawful orders answers.
use Rattle.std.specs.Prelude.{◌≡◌, ◌⊎◌, ℕ, ◌<◌, ◌≤◌, List, length, None, Some, IfSome}
use Rattle.std.specs.List.{All, AllPairs}
use Rattle.model.specs.declared.entry.Entry.{Entry}
use Rattle.model.specs.declared.end.Limits.{Limits}
use Rattle.model.specs.Design.{Design}
use Rattle.model.specs.Runs.{last_time}
use Rattle.model.specs.Texts.{IsEndlessJournal}
use Rattle.explore.specs.declared.Bounds.{Bounds}
use Rattle.explore.specs.declared.Explored.{Explored}
use Rattle.explore.specs.declared.Shown.{Shown}
use Rattle.explore.specs.declared.stopped.Stopped.TheVariants as stop
use Rattle.explore.specs.SearchedRuns.{Runs}
use Rattle.explore.specs.Search.{AreAllShown, AreDistinct}
use Rattle.explore.specs.Reach.{AreFollowedBefore}
use Rattle.loose.specs.declared.transition.LooseTransition.{LooseTransition}
use Rattle.lawful.specs.declared.node.LooseNode.{LooseNode}
use Rattle.lawful.specs.LooseNodes.{time_of_node}
use Rattle.lawful.specs.Journals.{IsLedJournal, JournalRelation, HasLawfulJournal, texts_and_ends}

-- what a search asks of its limits and its bounds: room for a node, and for an entry, and no time past the last one
pub record MaySearch (limits : Limits) (bounds : Bounds) : Type 0 where
  pub some_node : 0 < bounds.nodes
  pub some_entry : 0 < limits.max_entries
  pub in_time : IfSome limits.until (λ until. until ≤ last_time)

-- A search found texts and ends of loose runs: no two are the same; they are all where it wasn't stopped; it kept to its bounds, and to the one
-- that stopped it; and before the time that it tells nothing was left out, unless memory was refused.
pub record AreFoundLoosely {End : Type 0} (runs : Runs LooseTransition LooseNode End) (bounds : Bounds) (found : Explored LooseTransition End) : Type 0 where
  pub distinct : AllPairs AreDistinct found.shown.items
  pub all : found.stopped ≡ None → AreAllShown runs found.shown.items
  pub few : found.nodes ≤ bounds.nodes
  pub few_shown : length found.shown.items ≤ bounds.shown
  pub nodes_full : found.stopped ≡ Some stop.Nodes → found.nodes ≡ bounds.nodes
  pub shown_full : found.stopped ≡ Some stop.Shown → length found.shown.items ≡ bounds.shown
  pub before : (found.stopped ≡ Some stop.Memory) ⊎ AreFollowedBefore runs time_of_node found.shown.items found.followed_before

-- By some classes, loose runs were shown that have just these texts and ends, and of the loose runs by these classes nothing was left out before the
-- time that is told, and nothing at all where none is.
pub record IsFollowedLoosely {End : Type 0} (runs_by : (ℕ → ℕ) → Runs LooseTransition LooseNode End) (found : Explored Entry End) : Type 0 where
  pub class : ℕ → ℕ
  pub shown : List (Shown LooseTransition End)
  pub same : texts_and_ends found.shown.items ≡ texts_and_ends shown
  pub before : AreFollowedBefore (runs_by class) time_of_node shown found.followed_before

-- Each text that is shown is that of the lawful journal beside it, and so is its end; no two have one text and one end; they are all where
-- the search wasn't stopped; the search kept to its bounds, and to the one that stopped it; what is said to be endless is; before which time nothing was
-- left out of loose runs is told, unless memory was refused; and the journal that leads to where most ways lead on is lawful.
pub record AreLawfulOrders {End : Type 0} (IsJournal : JournalRelation End) (AreAll : List (List ℕ × End) → Type 0) (runs_by : (ℕ → ℕ) → Runs LooseTransition LooseNode End) (design : Design) (limits : Limits) (bounds : Bounds) (found : Explored Entry End) : Type 0 where
  pub journals : All (HasLawfulJournal IsJournal) found.shown.items
  pub distinct : AllPairs AreDistinct found.shown.items
  pub all : found.stopped ≡ None → AreAll (texts_and_ends found.shown.items)
  pub few : found.nodes ≤ bounds.nodes
  pub few_shown : length found.shown.items ≤ bounds.shown
  pub nodes_full : found.stopped ≡ Some stop.Nodes → found.nodes ≡ bounds.nodes
  pub shown_full : found.stopped ≡ Some stop.Shown → length found.shown.items ≡ bounds.shown
  pub never_ends : IfSome found.endless (λ journal. IsEndlessJournal design limits journal.items)
  pub before : (found.stopped ≡ Some stop.Memory) ⊎ IsFollowedLoosely runs_by found
  pub widest_led : IfSome found.widest (λ journal. IsLedJournal design limits journal.items)
