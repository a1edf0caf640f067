-- Whatever a register that is tracked may pass to is among its choices.
use Rattle.std.proofs.Common.{◌≡◌, ◌<◌, ℕ, true, List, ◌⊎◌, inl, inr, length, subst, get_or}
use Rattle.std.specs.List.{All, Contains}
use Rattle.std.proofs.lemmas.List.Elements.{All-contains}
use Rattle.logic4.specs.Vector.{Vector}
use Rattle.logic4.specs.Operators.{same_vector}
use Rattle.logic4.specs.Sameness.{same_vector-true}
use Rattle.model.specs.Turns.{contains}
use Rattle.certificates.specs.declared.changes.NotedChange.{NotedChange}
use Rattle.passing.specs.declared.moves.TrackedMoves.{TrackedMoves}
use Rattle.passing.specs.Moves.{is_move, passes_by, move_of, HaveAfter}
use Rattle.passing.proofs.Found.{MoveOf, move_found, tracked_passes}

-- from a value that was found, a register passes to one that was
value_on : (moves : TrackedMoves) (r : ℕ) (u v : Vector) (values : List Vector) → contains moves.tracked.items r ≡ true → HaveAfter moves.list.items r values → Contains values u → passes_by moves r u v ≡ true → Contains values v
value_on moves r u v values there after has passes = either (tracked_passes moves r u v there passes)
  where
    either : (same_vector u v ≡ true) ⊎ (is_move moves.list.items r u v ≡ true) → Contains values v
    either (inl same) = subst (λ (x : Vector). Contains values x) (same_vector-true u v same) has
    either (inr moved) =
        let m : MoveOf (λ own. own.register ≡ r → Contains values own.after) r u v = move_found (λ own. own.register ≡ r → Contains values own.after) moves.list.items r u v after moved in
        subst (λ (x : Vector). Contains values x) m.after (m.holds m.register)

-- where each move between values that were found is a choice
abbrev pub AreChosenFrom : TrackedMoves → ℕ → List Vector → List NotedChange → Vector → Type 0
AreChosenFrom moves r values choices before = All (λ after. passes_by moves r before after ≡ true → Contains choices (move_of r before after)) values

pub chosen_on : (moves : TrackedMoves) (r : ℕ) (values : List Vector) (old choices : List NotedChange) (before : Vector) → ((m : NotedChange) → Contains old m → Contains choices m) → AreChosenFrom moves r values old before
    → AreChosenFrom moves r values choices before
chosen_on moves r values old choices before kept all k d within may = kept (move_of r before (get_or values k d)) (all k d within may)

pub choice_there : (moves : TrackedMoves) (r : ℕ) (start : Vector) (values : List Vector) (choices : List NotedChange) → contains moves.tracked.items r ≡ true → Contains values start → HaveAfter moves.list.items r values
    → ((k : ℕ) (d : Vector) → k < length values → AreChosenFrom moves r values choices (get_or values k d)) → (u v : Vector) → passes_by moves r start u ≡ true → passes_by moves r u v ≡ true → Contains choices (move_of r u v)
choice_there moves r start values choices there has after each u v first second =
    let u_there : Contains values u = value_on moves r start u values there after has first in
    let v_there : Contains values v = value_on moves r u v values there after u_there second in
    let from : AreChosenFrom moves r values choices u = All-contains (AreChosenFrom moves r values choices) values u each u_there in
    All-contains (λ x. passes_by moves r u x ≡ true → Contains choices (move_of r u x)) values v from v_there second
