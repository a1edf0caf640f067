-- Statements and what is left at their places.
use Rattle.std.proofs.Common.{◌≡◌, ℕ, ◌+◌, ◌≤◌, inl, List, [], ◌∷◌, ◌++◌, length, refl, ap, arith, length-append}
use Rattle.model.specs.Design.{Design, Statement, Empty, Assign, AssignAfter, AssignLater, Now, Delay, Await, If, While, Print, Finish, Statements, End, Then, inside, all_of, size, all_statements, statement_at, first_place}
use Rattle.model.specs.Turns.{Remainder, At, parts}
use Rattle.design.specs.CodePlaces.{remainders, remainders_inside, all_remainders, remainder_at, IsPlaceOf}
use Rattle.design.specs.Emit.{first_of}
use Rattle.design.proofs.Places.{Sits, sits_first, sits_left, sits_right, sits_behind}

-- These statements and those inside them stand in the design, the first of them at this place; at each of their places
-- is what is left to run there, where this is left behind them.
abbrev mutual
  pub Placed : Design → ℕ → Statements → Remainder → Type 0
  Placed design place End rest = Unit {0}
  Placed design place (Then s ss) rest =
      (statement_at design place ≡ s)
      × (remainder_at design place ≡ At place ∷ (parts (place + 1 + length (inside s)) ss ++ rest))
      × PlacedInside design place s (parts (place + 1 + length (inside s)) ss ++ rest)
      × Placed design (place + 1 + length (inside s)) ss rest

  pub PlacedInside : Design → ℕ → Statement → Remainder → Type 0
  PlacedInside design place (Delay delay body) rest = Placed design (place + 1) body rest
  PlacedInside design place (Await triggers body) rest = Placed design (place + 1) body rest
  PlacedInside design place (If c body otherwise) rest =
      Placed design (place + 1) body rest × Placed design (place + 1 + size body) otherwise rest
  PlacedInside design place (While c body) rest = Placed design (place + 1) body (At place ∷ rest)
  PlacedInside design place s rest = Unit {0}

mutual
  pub length_remainders : (place : ℕ) (ss : Statements) (rest : Remainder) → length (remainders place ss rest) ≡ size ss
  length_remainders place End rest = refl
  length_remainders place (Then s ss) rest =
      let behind = parts (place + 1 + length (inside s)) ss ++ rest in
      omega (arith, length-append (remainders_inside place s behind) (remainders (place + 1 + length (inside s)) ss rest), length-append (inside s) (all_of ss), length_remainders_inside place s behind, length_remainders (place + 1 + length (inside s)) ss rest)

  pub length_remainders_inside : (place : ℕ) (s : Statement) (rest : Remainder) → length (remainders_inside place s rest) ≡ length (inside s)
  length_remainders_inside place Empty rest = refl
  length_remainders_inside place (Assign r e) rest = refl
  length_remainders_inside place (AssignAfter r d e) rest = refl
  length_remainders_inside place (AssignLater r d e) rest = refl
  length_remainders_inside place (Now r) rest = refl
  length_remainders_inside place (Delay d body) rest = length_remainders (place + 1) body rest
  length_remainders_inside place (Await triggers body) rest = length_remainders (place + 1) body rest
  length_remainders_inside place (If c body otherwise) rest =
      omega (arith, length-append (remainders (place + 1) body rest) (remainders (place + 1 + size body) otherwise rest), length-append (all_of body) (all_of otherwise), length_remainders (place + 1) body rest, length_remainders (place + 1 + size body) otherwise rest)
  length_remainders_inside place (While c body) rest = length_remainders (place + 1) body (At place ∷ rest)
  length_remainders_inside place (Print task format arguments) rest = refl
  length_remainders_inside place Finish rest = refl

-- what the design has at places
abbrev StatementsAt : Design → ℕ → List Statement → Type 0
StatementsAt design place ss = Sits (all_statements design.processes) place ss

abbrev LeftAt : Design → ℕ → List Remainder → Type 0
LeftAt design place rs = Sits (all_remainders 0 design.processes) place rs

mutual
  pub placed_all : (design : Design) (place : ℕ) (ss : Statements) (rest : Remainder) → StatementsAt design place (all_of ss) → LeftAt design place (remainders place ss rest) → Placed design place ss rest
  placed_all design place End rest h j = tt
  placed_all design place (Then s ss) rest h j =
      let all = all_statements design.processes in
      let lefts = all_remainders 0 design.processes in
      let n = place + 1 + length (inside s) in
      let behind = parts n ss ++ rest in
      let hs = sits_behind all place s (inside s ++ all_of ss) h in
      let js = sits_behind lefts place (At place ∷ behind) (remainders_inside place s behind ++ remainders n ss rest) j in (
        sits_first all place s (inside s ++ all_of ss) Empty h,
        sits_first lefts place (At place ∷ behind) (remainders_inside place s behind ++ remainders n ss rest) [] j,
        placed_inside design place s behind (sits_left all (place + 1) (inside s) (all_of ss) hs) (sits_left lefts (place + 1) (remainders_inside place s behind) (remainders n ss rest) js),
        placed_all design n ss rest (sits_right all (place + 1) n (inside s) (all_of ss) refl hs)
            (sits_right lefts (place + 1) n (remainders_inside place s behind) (remainders n ss rest) (ap (λ k. place + 1 + k) (length_remainders_inside place s behind)) js),
      )

  placed_inside : (design : Design) (place : ℕ) (s : Statement) (rest : Remainder) → StatementsAt design (place + 1) (inside s) → LeftAt design (place + 1) (remainders_inside place s rest) → PlacedInside design place s rest
  placed_inside design place Empty rest h j = tt
  placed_inside design place (Assign r e) rest h j = tt
  placed_inside design place (AssignAfter r d e) rest h j = tt
  placed_inside design place (AssignLater r d e) rest h j = tt
  placed_inside design place (Now r) rest h j = tt
  placed_inside design place (Delay d body) rest h j = placed_all design (place + 1) body rest h j
  placed_inside design place (Await triggers body) rest h j = placed_all design (place + 1) body rest h j
  placed_inside design place (If c body otherwise) rest h j =
      let all = all_statements design.processes in
      let lefts = all_remainders 0 design.processes in
      let first = remainders (place + 1) body rest in
      let second = remainders (place + 1 + size body) otherwise rest in (
        placed_all design (place + 1) body rest (sits_left all (place + 1) (all_of body) (all_of otherwise) h) (sits_left lefts (place + 1) first second j),
        placed_all design (place + 1 + size body) otherwise rest (sits_right all (place + 1) (place + 1 + size body) (all_of body) (all_of otherwise) refl h)
            (sits_right lefts (place + 1) (place + 1 + size body) first second (ap (λ k. place + 1 + k) (length_remainders (place + 1) body rest)) j),
      )
  placed_inside design place (While c body) rest h j = placed_all design (place + 1) body (At place ∷ rest) h j
  placed_inside design place (Print task format arguments) rest h j = tt
  placed_inside design place Finish rest h j = tt

-- what is left at a place of the process
pub record Leads (design : Design) (p next : ℕ) (rest : Remainder) : Type 0 where
  pub left : remainder_at design next ≡ rest
  pub own : IsPlaceOf design p next

-- the first of these statements, or else what is behind them
pub leads : (design : Design) (p place : ℕ) (ss : Statements) (rest : Remainder) (after : ℕ) → Placed design place ss rest → first_place design p ≤ place → place + size ss ≤ first_place design (p + 1) → Leads design p after rest → Leads design p (first_of place ss after) (parts place ss ++ rest)
leads design p place End rest after h lo hi l = l
leads design p place (Then s ss) rest after h lo hi l = record { left = h.1; own = inl (lo, omega arith) }
