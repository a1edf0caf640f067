-- Moves that lead through each other: what passes goes on.
use Rattle.std.proofs.Common.{◌≡◌, ℕ, Bool, true, false, not, ◌||◌, List, ◌⊎◌, inl, inr, refl, sym, subst, ◌∙◌}
use Rattle.std.specs.List.{All}
use Rattle.logic4.specs.Vector.{Vector}
use Rattle.logic4.specs.Operators.{same_vector}
use Rattle.logic4.specs.Sameness.{same_vector-self, same_vector-true}
use Rattle.model.specs.Turns.{contains}
use Rattle.certificates.specs.declared.changes.NotedChange.{NotedChange}
use Rattle.heldways.specs.Passing.{IsPassing}
use Rattle.passing.specs.declared.moves.TrackedMoves.{TrackedMoves}
use Rattle.passing.specs.Moves.{is_move, passes_by, LeadsThrough, AllLeadThrough}
use Rattle.passing.proofs.Found.{MoveOf, move_found, passes_untracked, passes_tracked, tracked_passes}

first_true : (a b : Bool) → a ≡ true → (a || b) ≡ true
first_true true b h = refl
first_true false b h = cc

-- two values that differ aren't the same
pub differ_never : (u v : Vector) → not (same_vector u v) ≡ true → u ≡ v → ⊥
differ_never u v differ same = never (same_vector u v) differ (subst (λ (w : Vector). same_vector u w ≡ true) same (same_vector-self u))
  where
    never : (b : Bool) → not b ≡ true → b ≡ true → ⊥
    never true h g = cc
    never false h g = cc

-- the test of what may pass
abbrev Leads : List NotedChange → ℕ → Vector → Vector → Type 0
Leads list r old new = (same_vector old new || is_move list r old new) ≡ true

abbrev LeadsOn : List NotedChange → NotedChange → Type 0
LeadsOn list one = All (LeadsThrough list one) list

leads_through : (list : List NotedChange) (r : ℕ) (u v w : Vector) → AllLeadThrough list → is_move list r u v ≡ true → is_move list r v w ≡ true → Leads list r u w
leads_through list r u v w all first second =
    let one : MoveOf (LeadsOn list) r u v = move_found (LeadsOn list) list r u v all first in
    let other : MoveOf (LeadsThrough list one.own) r v w = move_found (LeadsThrough list one.own) list r v w one.holds second in
    let through : Leads list one.own.register one.own.before other.own.after = other.holds (one.register ∙ sym other.register) (one.after ∙ sym other.before) in
    let at : Leads list r one.own.before other.own.after = subst (λ k. Leads list k one.own.before other.own.after) one.register through in
    subst (λ z. Leads list r u z) other.after (subst (λ z. Leads list r z other.own.after) one.before at)

goes_on_if : (moves : TrackedMoves) (r : ℕ) (u v w : Vector) → AllLeadThrough moves.list.items → (same_vector u v ≡ true) ⊎ (is_move moves.list.items r u v ≡ true) → (same_vector v w ≡ true) ⊎ (is_move moves.list.items r v w ≡ true)
    → passes_by moves r u v ≡ true → passes_by moves r v w ≡ true → passes_by moves r u w ≡ true
goes_on_if moves r u v w all (inl same) second h g = subst (λ z. passes_by moves r z w ≡ true) (sym (same_vector-true u v same)) g
goes_on_if moves r u v w all (inr first) (inl same) h g = subst (λ z. passes_by moves r u z ≡ true) (same_vector-true v w same) h
goes_on_if moves r u v w all (inr first) (inr second) h g = passes_tracked moves r u w (leads_through moves.list.items r u v w all first second)

goes_on_so : (moves : TrackedMoves) (r : ℕ) (u v w : Vector) (is : Bool) → contains moves.tracked.items r ≡ is → AllLeadThrough moves.list.items → passes_by moves r u v ≡ true → passes_by moves r v w ≡ true → passes_by moves r u w ≡ true
goes_on_so moves r u v w true is all h g =
    goes_on_if moves r u v w all (tracked_passes moves r u v is h) (tracked_passes moves r v w is g) h g
goes_on_so moves r u v w false is all h g = passes_untracked moves r u w is

pub is_passing : (moves : TrackedMoves) → AllLeadThrough moves.list.items → IsPassing (passes_by moves)
is_passing moves all =
    record {
      stays = λ r v. passes_tracked moves r v v (first_true (same_vector v v) (is_move moves.list.items r v v) (same_vector-self v));
      goes_on = λ r u v w h g. goes_on_so moves r u v w (contains moves.tracked.items r) refl all h g;
    }
