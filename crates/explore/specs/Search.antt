-- What is shown of the runs, what covers a node, and what it means that all is shown.
use Rattle.std.specs.Prelude.{◌≡◌, ℕ, ◌<◌, ◌≤◌, List, [], ◌++◌, length, get_or, Option, Some, None, ◌⊎◌}
use Rattle.std.specs.List.{All, AllPairs, Any}
use Rattle.sharing.specs.Parts.{Extends}
use Rattle.explore.specs.SearchedRuns.{Runs}
use Rattle.explore.specs.declared.EndedPath.{EndedPath}
use Rattle.explore.specs.declared.Successor.{Successor}
use Rattle.explore.specs.declared.Shown.{Shown}
use Rattle.explore.specs.declared.stopped.Stopped.{Stopped}
use Rattle.explore.specs.declared.stopped.Stopped.TheVariants.{Memory}

-- this text and this end are among what is shown
abbrev pub IsShown : {Move End : Type 0} → List (Shown Move End) → List ℕ → End → Type 0
IsShown shown text end = Any (λ s. (s.text.items ≡ text) × (s.end ≡ end)) shown

-- what is shown has another text or another end than these
abbrev pub Differs : {Move End : Type 0} → List ℕ → End → Shown Move End → Type 0
Differs text end s = s.text.items ≡ text → s.end ≡ end → ⊥

-- two that are shown differ in their texts or their ends
abbrev pub AreDistinct : {Move End : Type 0} → Shown Move End → Shown Move End → Type 0
AreDistinct a b = a.text.items ≡ b.text.items → a.end ≡ b.end → ⊥

-- what is shown is the text and the end of the run of its moves, which are no more than they may be
abbrev pub IsOfRun : {Move Node End : Type 0} → Runs Move Node End → Shown Move End → Type 0
IsOfRun runs shown = runs.Ends shown.moves.items shown.end × (shown.text.items ≡ runs.text shown.moves.items) × runs.Within shown.moves.items

-- What is shown is of these runs, no two of it alike, and no more than there may be.
pub record AreShownWell {Move Node End : Type 0} (runs : Runs Move Node End) (most : ℕ) (shown : List (Shown Move End)) : Type 0 where
  pub sound : All (IsOfRun runs) shown
  pub distinct : AllPairs AreDistinct shown
  pub few : length shown ≤ most

-- What was shown stays, and with what was added it is of these runs, no two of it alike, and no more than there may be.
pub record AreShownFurther {Move Node End : Type 0} (runs : Runs Move Node End) (most : ℕ) (old new : List (Shown Move End)) : Type 0 where
  pub well : AreShownWell runs most new
  pub more : Extends old new

-- the node stands at some run
abbrev pub IsReached : {Move Node End : Type 0} → Runs Move Node End → Node → Type 0
IsReached {Move} runs node = (run : List Move) × runs.Stands node run

-- a run that goes on by these moves prints this on them
abbrev pub IsPrinted : {Move Node End : Type 0} → Runs Move Node End → List Move → List Move → List ℕ → Type 0
IsPrinted runs run moves printed = runs.text (run ++ moves) ≡ runs.text run ++ printed

-- the run goes on by these moves to this end, what they print is told, and it has no more moves than it may have
abbrev pub IsEndedPath : {Move Node End : Type 0} → Runs Move Node End → List Move → EndedPath Move End → Type 0
IsEndedPath runs run ended =
    runs.Ends (run ++ ended.moves.items) ended.end × IsPrinted runs run ended.moves.items ended.printed.items × runs.Within (run ++ ended.moves.items)

-- the node stands at the run that goes on by its moves, and what they print is told
abbrev pub IsSuccessor : {Move Node End : Type 0} → Runs Move Node End → List Move → Successor Node Move → Type 0
IsSuccessor runs run next = runs.Stands next.node (run ++ next.moves.items) × IsPrinted runs run next.moves.items next.printed.items

-- However the first of two runs goes on to an end, the second goes on by as many moves to the same end and the same text.
abbrev pub Serves : {Move Node End : Type 0} → Runs Move Node End → List Move → List Move → Type 0
Serves {Move} {Node} {End} runs first second =
    (moves : List Move) (end : End) → runs.Ends (first ++ moves) end →
    (others : List Move) × (length others ≡ length moves) × runs.Ends (second ++ others) end
    × (runs.text (second ++ others) ≡ runs.text (first ++ moves))

-- A first part of the moves, at least one of them, leads from a run to what is like one of these.
pub record Passes {Move X : Type 0} (IsLike : List Move → X → Type 0) (run moves : List Move) (xs : List X) : Type 0 where
  pub part : List Move
  pub rest : List Move
  pub moved : 0 < length part
  pub split : moves ≡ part ++ rest
  pub leads : Any (λ x. IsLike (run ++ part) x) xs

-- However a run goes on to an end, its text and that end are told, or its way passes through what is like one of these.
abbrev pub IsFollowed : {Move Node End X : Type 0} → Runs Move Node End → (List ℕ → End → Type 0) → (List Move → X → Type 0) → List X → List Move → Type 0
IsFollowed {Move} {Node} {End} runs IsEndOfPath IsLike xs run =
    (moves : List Move) (end : End) → runs.Ends (run ++ moves) end →
    IsEndOfPath (runs.text (run ++ moves)) end ⊎ Passes IsLike run moves xs

-- the text and the end are those of one of the ways on which a run has come to an end
abbrev pub IsEndOfPath : {Move Node End : Type 0} → Runs Move Node End → List (EndedPath Move End) → List Move → List ℕ → End → Type 0
IsEndOfPath runs ended run text end = Any (λ s. (runs.text run ++ s.printed.items ≡ text) × (s.end ≡ end)) ended

-- The law of cover, all that a search knows of how a node that stands at a run was expanded: each way to an end is one
-- of those that have come to it, or passes through a run that goes on like the run that leads to a successor.
abbrev pub IsCovered : {Move Node End : Type 0} → Runs Move Node End → List (Successor Node Move) → List (EndedPath Move End) → List Move → Type 0
IsCovered runs successors ended run =
    IsFollowed runs (IsEndOfPath runs ended run) (λ way next. runs.Alike way (run ++ next.moves.items)) successors run

-- however a run goes on from this one, it comes to no end
abbrev pub NeverEnds : {Move Node End : Type 0} → Runs Move Node End → List Move → Type 0
NeverEnds {Move} {Node} {End} runs run = (moves : List Move) (end : End) → runs.Ends (run ++ moves) end → ⊥

-- A run was reached from which no end is reached: a node stands at it, and it comes to no end.
pub record IsEndless {Move Node End : Type 0} (runs : Runs Move Node End) (run : List Move) : Type 0 where
  pub node : Node
  pub stands : runs.Stands node run
  pub never : NeverEnds runs run

-- the text and the end of every run are among what is shown
abbrev pub AreAllShown : {Move Node End : Type 0} → Runs Move Node End → List (Shown Move End) → Type 0
AreAllShown {Move} {Node} {End} runs shown =
    (moves : List Move) (end : End) → runs.Ends moves end → IsShown shown (runs.text moves) end

-- What the number of nodes counts: a run for each of them, at which a node stands, beginning with the run that has no moves. Where
-- nothing was left out, each of these runs is followed by what is shown and by these.
pub record AreCounted {Move Node End : Type 0} (runs : Runs Move Node End) (shown : List (Shown Move End)) (stopped : Option Stopped) (nodes : ℕ) : Type 0 where
  pub reached : List (List Move)
  pub count : length reached ≡ nodes
  pub stand : All (λ run. (node : Node) × runs.Stands node run) reached
  pub starts : stopped ≡ Some Memory ⊎ (0 < nodes) × (get_or reached 0 [] ≡ [])
  pub followed : stopped ≡ None → All (IsFollowed runs (IsShown shown) (Serves runs) reached) reached
