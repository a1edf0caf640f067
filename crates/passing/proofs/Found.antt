-- A move that is in a list, and what is known of a register that is tracked.
use Rattle.std.proofs.Common.{◌≡◌, ℕ, Bool, true, false, not, ◌&&◌, ◌||◌, ◌==◌, List, [], ◌∷◌, ◌⊎◌, inl, inr, refl, sym, ap, ◌∙◌, eqb-true}
use Rattle.std.specs.List.{All}
use Rattle.std.proofs.lemmas.List.Elements.{All-head, All-tail}
use Rattle.logic4.specs.Vector.{Vector}
use Rattle.logic4.specs.Operators.{same_vector}
use Rattle.logic4.specs.Sameness.{same_vector-true}
use Rattle.model.specs.Turns.{contains}
use Rattle.certificates.specs.declared.changes.NotedChange.{NotedChange}
use Rattle.passing.specs.declared.moves.TrackedMoves.{TrackedMoves}
use Rattle.passing.specs.Moves.{is_move, passes_by}

pub both_true : (a b : Bool) → (a && b) ≡ true → (a ≡ true) × (b ≡ true)
both_true true b h = (refl, h)
both_true false b h = cc

pub either_true : (a b : Bool) → (a || b) ≡ true → (a ≡ true) ⊎ (b ≡ true)
either_true true b h = inl refl
either_true false b h = inr h

-- a move of which something holds
pub record MoveOf (P : NotedChange → Type 0) (r : ℕ) (old new : Vector) : Type 0 where
  pub own : NotedChange
  pub holds : P own
  pub register : own.register ≡ r
  pub before : own.before ≡ old
  pub after : own.after ≡ new

pub move_found : (P : NotedChange → Type 0) (list : List NotedChange) (r : ℕ) (old new : Vector) → All P list → is_move list r old new ≡ true → MoveOf P r old new
move_found P [] r old new all is = absurd (cc)
move_found P (m ∷ list) r old new all is =
    step (either_true (((m.register == r) && same_vector m.before old) && same_vector m.after new) (is_move list r old new) is) (move_found P list r old new (All-tail P m list all))
  where
    step : ((((m.register == r) && same_vector m.before old) && same_vector m.after new) ≡ true) ⊎ (is_move list r old new ≡ true) → (is_move list r old new ≡ true → MoveOf P r old new) → MoveOf P r old new
    step (inl here) later =
        let (first, after) = both_true ((m.register == r) && same_vector m.before old) (same_vector m.after new) here in
        let (register, before) = both_true (m.register == r) (same_vector m.before old) first in
        record {
          own = m;
          holds = All-head P m list all;
          register = eqb-true m.register r register;
          before = same_vector-true m.before old before;
          after = same_vector-true m.after new after;
        }
    step (inr there) later = later there

-- a register that isn't tracked may pass to anything, and one that is where it may
pub passes_untracked : (moves : TrackedMoves) (r : ℕ) (old new : Vector) → contains moves.tracked.items r ≡ false → passes_by moves r old new ≡ true
passes_untracked moves r old new none = ap (λ b. not b || (same_vector old new || is_move moves.list.items r old new)) none

pub passes_tracked : (moves : TrackedMoves) (r : ℕ) (old new : Vector) → (same_vector old new || is_move moves.list.items r old new) ≡ true → passes_by moves r old new ≡ true
passes_tracked moves r old new is = last (not (contains moves.tracked.items r)) (same_vector old new || is_move moves.list.items r old new) is
  where
    last : (a b : Bool) → b ≡ true → (a || b) ≡ true
    last true b h = refl
    last false b h = h

pub tracked_passes : (moves : TrackedMoves) (r : ℕ) (old new : Vector) → contains moves.tracked.items r ≡ true → passes_by moves r old new ≡ true → (same_vector old new ≡ true) ⊎ (is_move moves.list.items r old new ≡ true)
tracked_passes moves r old new there is =
    either_true (same_vector old new) (is_move moves.list.items r old new) (sym (ap (λ b. not b || (same_vector old new || is_move moves.list.items r old new)) there) ∙ is)
