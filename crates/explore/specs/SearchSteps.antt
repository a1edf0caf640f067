-- From single moves to whole runs.
use Rattle.std.specs.Prelude.{◌≡◌, List, [], ◌∷◌, ◌++◌, refl, suc}
use Rattle.std.proofs.Common.{sym, ap, ◌∙◌, subst, append_assoc}
use Rattle.std.proofs.lemmas.List.{append-nil}
use Rattle.explore.specs.SearchedRuns.{Runs}
use Rattle.explore.specs.Search.{Serves}

-- What has to be known of runs that are alike, move by move.
pub record StepsAlike {Move Node End : Type 0} (runs : Runs Move Node End) (IsRun : List Move → Type 0) : Type 0 where
  -- what ends is a run
  pub ends_run : (moves : List Move) (end : End) → runs.Ends moves end → IsRun moves
  -- the first part of a run is a run
  pub front : (moves more : List Move) → IsRun (moves ++ more) → IsRun moves
  -- where the one goes on by a move, so does the other, and they are alike after it
  pub step : (i j : List Move) (move : Move) → runs.Alike i j → IsRun (i ++ move ∷ []) → (other : Move) × runs.Alike (i ++ move ∷ []) (j ++ other ∷ [])
  -- where the one ends, so does the other
  pub ends : (i j : List Move) (end : End) → runs.Alike i j → runs.Ends i end → runs.Ends j end
  -- they have one text
  pub text : (i j : List Move) → runs.Alike i j → runs.text i ≡ runs.text j

-- so runs that are alike serve one another
pub Serves-from_steps : {Move Node End : Type 0} (runs : Runs Move Node End) (IsRun : List Move → Type 0) → StepsAlike runs IsRun → (i j : List Move) → runs.Alike i j → Serves runs i j
Serves-from_steps runs IsRun known i j alike [] end ends = (
  [],
  refl,
  subst (λ x. runs.Ends x end) (sym (append-nil j)) (known.ends i j end alike (subst (λ x. runs.Ends x end) (append-nil i) ends)),
  ap runs.text (append-nil j) ∙ (sym (known.text i j alike) ∙ ap runs.text (sym (append-nil i))),
)
Serves-from_steps {Move} runs IsRun known i j alike (move ∷ moves) end ends =
    let through : (i ++ move ∷ []) ++ moves ≡ i ++ (move ∷ moves) = append_assoc i (move ∷ []) moves in
    let later : runs.Ends ((i ++ move ∷ []) ++ moves) end = subst (λ x. runs.Ends x end) (sym through) ends in
    let next = known.step i j move alike (known.front (i ++ move ∷ []) moves (known.ends_run ((i ++ move ∷ []) ++ moves) end later)) in
    let rest = Serves-from_steps runs IsRun known (i ++ move ∷ []) (j ++ next.0 ∷ []) next.1 moves end later in
    let same : (j ++ next.0 ∷ []) ++ rest.0 ≡ j ++ (next.0 ∷ rest.0) = append_assoc j (next.0 ∷ []) rest.0 in (
      next.0 ∷ rest.0,
      ap (λ n. suc n) rest.1,
      subst (λ x. runs.Ends x end) same rest.2,
      ap runs.text (sym same) ∙ (rest.3 ∙ ap runs.text through),
    )
