-- Two processes, the second of which reads the output of the first, while the first is active: the outputs of both are in the cone,
-- and no other register is. Where the second alone is active, the output of the first is outside.
use Rattle.std.proofs.Common.{◌≡◌, ℕ, zero, suc, ◌≤◌, Bool, true, false, List, [], ◌∷◌, ◌==◌, ◌||◌, refl, arith}
use Rattle.std.proofs.lemmas.Bool.{eqb-true}
use Rattle.model.specs.Design.{Design}
use Rattle.model.specs.Turns.{contains}
use Rattle.model.specs.States.{Evaluate, State, start}
use Rattle.model.specs.Laws.{evaluations_in}
use Rattle.phases.specs.Phase.{IsActive, Block}
use Rattle.loosephases.specs.Held.{HasCone, IsOutsideCone}

abbrev two : Design
two = record { widths = 1 ∷ 1 ∷ 1 ∷ 1 ∷ []; processes = [] }

-- process 0 computes register 1 of register 0, and process 1 computes register 2 of register 1
abbrev chain : ℕ → Block
chain zero = record { rest = []; inputs = 0 ∷ []; outputs = 1 ∷ [] }
chain (suc p) = record { rest = []; inputs = 1 ∷ []; outputs = 2 ∷ [] }

abbrev members : List ℕ
members = 0 ∷ 1 ∷ []

abbrev with_turn : ℕ → State
with_turn p = record (start two) { active = (0, Evaluate p) ∷ [] }

-- both outputs are in each list that has the cone
pub both_in_cone : (cone : List ℕ) → HasCone (with_turn 0) members chain cone → (contains cone 1 ≡ true) × (contains cone 2 ≡ true)
both_in_cone cone has =
    let one : evaluations_in 0 (with_turn 0).active ≡ 1 = refl in
    let active : 1 ≤ evaluations_in 0 (with_turn 0).active = omega (arith, one) in
    let first : contains cone 1 ≡ true = has.begins 0 1 refl active refl in
    (first, has.goes_on 1 1 2 refl refl first refl)

only : (r q : ℕ) → contains (q ∷ []) r ≡ true → q ≡ r
only r q is = one_of (q == r) refl is
  where
    one_of : (here : Bool) → (q == r) ≡ here → (here || false) ≡ true → q ≡ r
    one_of true here there = eqb-true q r here
    one_of false here there = cc

-- the list of the second output alone has the cone, so the first output is outside
pub second_alone : IsOutsideCone (with_turn 1) members chain 1
second_alone = (2 ∷ [], record { begins = begins; goes_on = goes_on }, refl)
  where
    begins : (p r : ℕ) → contains members p ≡ true → IsActive (with_turn 1) p → contains (chain p).outputs r ≡ true → contains (2 ∷ []) r ≡ true
    begins zero r member active out =
        let none : evaluations_in 0 (with_turn 1).active ≡ 0 = refl in
        absurd (omega (arith, active, none))
    begins (suc p) r member active out = out

    goes_on : (p q r : ℕ) → contains members p ≡ true → contains (chain p).inputs q ≡ true → contains (2 ∷ []) q ≡ true → contains (chain p).outputs r ≡ true → contains (2 ∷ []) r ≡ true
    goes_on zero q r member input there out =
        let first : 0 ≡ q = only q 0 input in
        let last : 2 ≡ q = only q 2 there in
        absurd (omega (arith, first, last))
    goes_on (suc p) q r member input there out = out
