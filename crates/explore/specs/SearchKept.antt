-- What a search keeps.
use Rattle.std.specs.Prelude.{◌≡◌, ℕ, ◌+◌, ◌<◌, ◌≤◌, List, [], ◌∷◌, ◌++◌, true, length, get_or, Some, slice_get}
use Rattle.std.specs.List.{All, Any}
use Rattle.explore.specs.Visited.{visits, AreVisits}
use Rattle.sharing.specs.Parts.{Extends}
use Rattle.explore.specs.Pieces.{pieces}
use Rattle.explore.specs.SearchedRuns.{Runs}
use Rattle.explore.specs.Search.{Serves}
use Rattle.explore.specs.NumberedTexts.{texts, IsTexts}
use Rattle.explore.specs.Lineage.{ways, IsLineage}
use Rattle.explore.specs.Links.{IsLinked, IsUnmarked}
use Rattle.explore.specs.Placed.{ArePlaced}
use Rattle.explore.specs.Reach.{AreTimed}
use Rattle.explore.specs.declared.kept.KeptNodes.{KeptNodes}
use Rattle.explore.specs.declared.kept.Reached.{Reached}
use Rattle.explore.specs.declared.text_table.TextTable.{TextTable}
use Rattle.explore.specs.declared.lineage.Lineage.{Lineage}

-- the text with a text number is that of the run with its number
pub record IsText {Move Node End : Type 0} (runs : Runs Move Node End) (ways : List (List Move)) (texts : List (List ℕ)) (reached : Reached) : Type 0 where
  pub way : reached.number < length ways
  pub told : reached.text < length texts
  pub same : get_or texts reached.text [] ≡ runs.text (get_or ways reached.number [])

-- a lineage and texts hold the run with a number, and its text
pub record HoldsRun {Move Node End : Type 0} (runs : Runs Move Node End) (lineage : Lineage Move) (held : TextTable) (reached : Reached) : Type 0 where
  pub is_lineage : IsLineage lineage
  pub are_texts : IsTexts held
  pub text : IsText runs (ways lineage) (texts held) reached

-- a node that stands at the run with this number has this key
pub record IsVisited {Move Node End : Type 0} (runs : Runs Move Node End) (HasKey : Node → List ℕ → Type 0) (ways : List (List Move)) (texts : List (List ℕ)) (reached : Reached) (key : List ℕ) : Type 0 where
  pub node : Node
  pub stands : runs.Stands node (get_or ways reached.number [])
  pub keyed : HasKey node key
  pub text : IsText runs ways texts reached

-- runs, texts and nodes belong together, the runs of pending nodes are there, and for each run there is the visit of a node that
-- stands at it
pub record AreKept {Move Node End : Type 0} (runs : Runs Move Node End) (HasKey : Node → List ℕ → Type 0) (kept : KeptNodes Node Move) : Type 0 where
  pub lineage : IsLineage kept.lineage
  pub told : IsTexts kept.texts
  pub whole : AreVisits kept.visited
  pub count : length (visits kept.visited) ≡ length (ways kept.lineage)
  pub visited : (k : ℕ) (visit : ℕ × List ℕ) → slice_get (visits kept.visited) k ≡ Some visit → IsVisited runs HasKey (ways kept.lineage) (texts kept.texts) (record { number = k; text = visit.0 }) visit.1
  pub pending : All (IsText runs (ways kept.lineage) (texts kept.texts)) kept.pending.items
  pub placed : ArePlaced runs (ways kept.lineage) kept.nodes

-- What is kept of these runs is good and of no more of them than there may be, and the times are those of the runs' nodes.
pub record AreKeptWell {Move Node End : Type 0} (runs : Runs Move Node End) (HasKey : Node → List ℕ → Type 0) (time_of : Node → ℕ) (most : ℕ) (kept : KeptNodes Node Move) : Type 0 where
  pub good : AreKept runs HasKey kept
  pub timed : AreTimed runs time_of (ways kept.lineage) kept.links.times.items
  pub room : length (ways kept.lineage) ≤ most

-- The run that has no moves and the empty text are kept alone, and no node was reached.
pub record IsBare {Node Move : Type 0} (kept : KeptNodes Node Move) : Type 0 where
  pub lineage : IsLineage kept.lineage
  pub run : ways kept.lineage ≡ [] ∷ []
  pub told : IsTexts kept.texts
  pub empty : texts kept.texts ≡ [] ∷ []
  pub whole : AreVisits kept.visited
  pub unvisited : visits kept.visited ≡ []
  pub unlinked : kept.links.may_end.items ≡ []
  pub untimed : kept.links.times.items ≡ []
  pub idle : kept.pending.items ≡ []
  pub newest : kept.nodes.newest.nodes.items ≡ []
  pub checkpoints : kept.nodes.checkpoints.nodes.items ≡ []

-- Of the run that has no moves alone a node was reached, which is pending. A run may end at it.
pub record IsBegun {Move Node End : Type 0} (runs : Runs Move Node End) (HasKey : Node → List ℕ → Type 0) (time_of : Node → ℕ) (kept : KeptNodes Node Move) : Type 0 where
  pub good : AreKept runs HasKey kept
  pub run : ways kept.lineage ≡ [] ∷ []
  pub waits : Any (λ reached. reached.number ≡ 0) kept.pending.items
  pub unmarked : kept.links.may_end.items ≡ true ∷ []
  pub timed : AreTimed runs time_of (ways kept.lineage) kept.links.times.items

-- runs, their steps, edges and texts stay, and for each run that was added there is one more whose node is pending
pub record Grows {Node Move : Type 0} (old new : KeptNodes Node Move) : Type 0 where
  pub lineage : Extends (ways old.lineage) (ways new.lineage)
  pub steps : Extends (pieces old.lineage.steps) (pieces new.lineage.steps)
  pub edges : Extends old.links.edges.items new.links.edges.items
  pub texts : Extends (texts old.texts) (texts new.texts)
  pub pending : Extends old.pending.items new.pending.items
  pub count : length new.pending.items + length (ways old.lineage) ≡ length old.pending.items + length (ways new.lineage)
  pub waits : (k : ℕ) → length (ways old.lineage) ≤ k → k < length (ways new.lineage) → Any (λ reached. reached.number ≡ k) new.pending.items

-- a node at which no run ends now was one before
abbrev pub StayUnmarked : {Node Move : Type 0} → KeptNodes Node Move → KeptNodes Node Move → Type 0
StayUnmarked old new = (k : ℕ) → IsUnmarked new.links.may_end.items k → IsUnmarked old.links.may_end.items k

-- What is kept of these runs grew, and is good; nodes at which no run ends stay so.
pub record AreKeptFurther {Move Node End : Type 0} (runs : Runs Move Node End) (HasKey : Node → List ℕ → Type 0) (time_of : Node → ℕ) (most : ℕ) (old new : KeptNodes Node Move) : Type 0 where
  pub well : AreKeptWell runs HasKey time_of most new
  pub grows : Grows old new
  pub unmarked : StayUnmarked old new

-- one of the runs that were reached serves this one
abbrev pub IsServed : {Move Node End : Type 0} → Runs Move Node End → List (List Move) → List Move → Type 0
IsServed runs reached run = Any (λ way. Serves runs run way) reached

-- The run with some number serves this one, and one of the ways from the node with the first number leads there.
pub record LeadsOn {Move Node End : Type 0} (runs : Runs Move Node End) (kept : KeptNodes Node Move) (from : ℕ) (run : List Move) : Type 0 where
  pub to : ℕ
  pub within : to < length (ways kept.lineage)
  pub linked : IsLinked (pieces kept.lineage.steps) kept.links.edges.items from to
  pub serves : Serves runs run (get_or (ways kept.lineage) to [])

-- A first part of the moves, at least one of them, leads from the run with a number to what a run serves to which one of the ways
-- from its node leads.
pub record GoesOnBy {Move Node End : Type 0} (runs : Runs Move Node End) (kept : KeptNodes Node Move) (from : ℕ) (moves : List Move) : Type 0 where
  pub part : List Move
  pub rest : List Move
  pub moved : 0 < length part
  pub split : moves ≡ part ++ rest
  pub leads : LeadsOn runs kept from (get_or (ways kept.lineage) from [] ++ part)

-- However the run with a number goes on to an end, it goes on by one of the ways from its node.
pub record IsContinued {Move Node End : Type 0} (runs : Runs Move Node End) (kept : KeptNodes Node Move) (from : ℕ) : Type 0 where
  pub within : from < length (ways kept.lineage)
  pub goes_on : (moves : List Move) (end : End) → runs.Ends (get_or (ways kept.lineage) from [] ++ moves) end → GoesOnBy runs kept from moves

-- each node at which no run ends is continued
abbrev pub AreContinued : {Move Node End : Type 0} → Runs Move Node End → KeptNodes Node Move → Type 0
AreContinued runs kept = (k : ℕ) → IsUnmarked kept.links.may_end.items k → IsContinued runs kept k
