-- The runs that the number of nodes counts.
use Rattle.std.proofs.Common.{◌≡◌, ℕ, ◌<◌, ◌≤◌, ◌++◌, List, [], length, get_or, Some, None, Option, refl, sym, subst, arith, inl, inr, Vec, Global}
use Rattle.std.specs.Prelude.{IfSome, IsErrAnd, Result, Ok, Err}
use Rattle.std.specs.List.{All}
use Rattle.std.proofs.lemmas.List.{get_or_default}
use Rattle.std.proofs.lemmas.List.Elements.{All-nil}
use Rattle.std.proofs.lemmas.Option.{slice_get-get_or}
use Rattle.explore.specs.Visited.{visits}
use Rattle.explore.specs.SearchKept.{AreKept, AreContinued}
use Rattle.explore.specs.SearchedRuns.{Runs}
use Rattle.explore.specs.Search.{AreCounted, AreShownWell, IsEndless, IsFollowed, IsShown, Serves}
use Rattle.explore.specs.Lineage.{ways}
use Rattle.explore.specs.Links.{IsNeverEnding}
use Rattle.explore.specs.declared.Bounds.{Bounds}
use Rattle.explore.specs.declared.Shown.{Shown}
use Rattle.explore.specs.Outcome.{IsSearched}
use Rattle.explore.specs.declared.kept.KeptNodes.{KeptNodes}
use Rattle.explore.specs.declared.search.SearchOutcome.{SearchOutcome}
use Rattle.explore.specs.declared.stopped.Stopped.{Stopped}
use Rattle.explore.specs.declared.stopped.Stopped.TheVariants as stop
use Rattle.explore.proofs.Complete.{AreFollowed}
use Rattle.explore.proofs.Continuing.{never_ends}

-- where something is there, it is not nothing
pub some_none : {X : Type 0} (x : X) → ◌≡◌ {A = Option X} (Some x) None → ⊥
some_none x e = cc

pub none_some : {X : Type 0} (x : X) → ◌≡◌ {A = Option X} None (Some x) → ⊥
none_some x e = cc

-- a node stands at each run that was reached
pub stood_at : {M N E : Type 0} (runs : Runs M N E) (HasKey : N → List ℕ → Type 0) (kept : KeptNodes N M) (k : ℕ) → AreKept runs HasKey kept → k < length (ways kept.lineage) → (node : N) × runs.Stands node (get_or (ways kept.lineage) k [])
stood_at runs HasKey kept k known within =
    let all = visits kept.visited in
    let count = known.count in
    let seen = known.visited k (get_or all k (0, [])) (slice_get-get_or all k (0, []) (omega (arith, within, count))) in
    (seen.node, seen.stands)

all_stand : {M N E : Type 0} (runs : Runs M N E) (HasKey : N → List ℕ → Type 0) (kept : KeptNodes N M) → AreKept runs HasKey kept → All (λ run. (node : N) × runs.Stands node run) (ways kept.lineage)
all_stand {M} {N} runs HasKey kept known k d within =
    subst (λ (run : List M). (node : N) × runs.Stands node run) (get_or_default (ways kept.lineage) k [] d within) (stood_at runs HasKey kept k known within)

-- the runs that were reached are counted
pub counted : {M N E : Type 0} (runs : Runs M N E) (HasKey : N → List ℕ → Type 0) (kept : KeptNodes N M) (shown : List (Shown M E)) (stopped : Option Stopped) (nodes : ℕ) → AreKept runs HasKey kept → nodes ≡ length (ways kept.lineage) → 0 < length (ways kept.lineage) → get_or (ways kept.lineage) 0 [] ≡ [] →
    (stopped ≡ None → AreFollowed runs shown (ways kept.lineage)) → AreCounted runs shown stopped nodes
counted {M} {N} {E} runs HasKey kept shown stopped nodes known count some first followed =
    let reached = ways kept.lineage in
    record {
      reached = reached;
      count = sym count;
      stand = all_stand runs HasKey kept known;
      starts = inr (omega (arith, some, count), first);
      followed = λ none k d within. subst (λ (run : List M). IsFollowed runs (IsShown shown) (Serves runs) reached run) (get_or_default reached k [] d within) (followed none k within);
    }

-- no run is counted where memory was refused to the first
pub none_counted : {M N E : Type 0} (runs : Runs M N E) (shown : List (Shown M E)) (nodes : ℕ) → nodes ≡ 0 → AreCounted runs shown (Some stop.Memory) nodes
none_counted {M} {N} {E} runs shown nodes zeroth =
    record {
      reached = [];
      count = sym zeroth;
      stand = All-nil (λ (run : List M). (node : N) × runs.Stands node run);
      starts = inl refl;
      followed = λ none. absurd (some_none stop.Memory none);
    }

-- the run that was found comes to no end
pub is_endless : {M N E : Type 0} (runs : Runs M N E) (HasKey : N → List ℕ → Type 0) (kept : KeptNodes N M) (moves : List M) → AreKept runs HasKey kept → AreContinued runs kept → IsNeverEnding kept.lineage kept.links moves → IsEndless runs moves
is_endless {M} runs HasKey kept moves known continued found =
    let at = stood_at runs HasKey kept found.number known found.within in
    record {
      node = at.0;
      stands = subst (λ (l : List M). runs.Stands at.0 l) (sym found.moves_are) at.1;
      never = λ more end ends. never_ends runs kept found.marks found.number found.closed continued found.unmarked more end (subst (λ (l : List M). runs.Ends (l ++ more) end) found.moves_are ends);
    }

-- where a run is found, it comes to no end
pub endless_of : {M N E : Type 0} (runs : Runs M N E) (HasKey : N → List ℕ → Type 0) (kept : KeptNodes N M) (found : Option (Vec M Global)) → AreKept runs HasKey kept → AreContinued runs kept → IfSome found (λ moves. IsNeverEnding kept.lineage kept.links moves.items) → IfSome found (λ moves. IsEndless runs moves.items)
endless_of runs HasKey kept None known continued found = tt
endless_of runs HasKey kept (Some moves) known continued found = is_endless runs HasKey kept moves.items known continued found

-- what holds of what is there holds where nothing is
pub none_told : {X : Type 0} (P : X → Type 0) (o : Option X) → o ≡ None → IfSome o P
none_told P None none = tt
none_told P (Some x) none = absurd (some_none x none)

-- the reasons why a search stops differ
pub bytes_nodes : ◌≡◌ {A = Option Stopped} (Some stop.Bytes) (Some stop.Nodes) → ⊥
bytes_nodes e = cc

pub bytes_shown : ◌≡◌ {A = Option Stopped} (Some stop.Bytes) (Some stop.Shown) → ⊥
bytes_shown e = cc

pub shown_nodes : ◌≡◌ {A = Option Stopped} (Some stop.Shown) (Some stop.Nodes) → ⊥
shown_nodes e = cc

memory_nodes : ◌≡◌ {A = Option Stopped} (Some stop.Memory) (Some stop.Nodes) → ⊥
memory_nodes e = cc

memory_shown : ◌≡◌ {A = Option Stopped} (Some stop.Memory) (Some stop.Shown) → ⊥
memory_shown e = cc

-- where a search fails, a refusal of memory stopped it
pub searched_failed : {M N E F : Type 0} (runs : Runs M N E) (time_of : N → ℕ) (bounds : Bounds) (shown : List (Shown M E)) (nodes : ℕ) (r : Result (SearchOutcome M) F) (R : F → Type 0) → IsErrAnd r R → nodes ≤ bounds.nodes → AreShownWell runs bounds.shown shown →
    AreCounted runs shown (Some stop.Memory) nodes → IsSearched runs time_of bounds shown nodes r
searched_failed runs time_of bounds shown nodes (Ok outcome) R never few well counted = absurd never
searched_failed runs time_of bounds shown nodes (Err fault) R is few well counted =
    record {
      few = few;
      well = well;
      all = λ none. absurd (some_none stop.Memory none);
      most = λ at. absurd (memory_nodes at);
      full = λ at. absurd (memory_shown at);
      counted = counted;
      before = inl refl;
      endless = tt;
      widest = tt;
    }
