-- Which registers are in lists that are made of others.
use Rattle.std.proofs.Common.{◌≡◌, ℕ, Bool, true, false, List, [], ◌∷◌, refl, sym, ap, ◌∙◌, ◌==◌, eq-eqb}
use Rattle.std.specs.Prelude.{cond, not, ◌&&◌, ◌||◌}
use Rattle.std.proofs.lemmas.Bool.{eqb-true}
use Rattle.model.specs.Turns.{contains}
use Rattle.model.specs.TurnCases.{all_but}
use Rattle.phases.specs.Combinational.{common}

and_false : (b : Bool) → (b && false) ≡ false
and_false true = refl
and_false false = refl

common_first : (x r : ℕ) (xs ys : List ℕ) (is here : Bool) → contains ys x ≡ is → (x == r) ≡ here → contains (common xs ys) r ≡ (contains xs r && contains ys r)
    → contains (cond is (x ∷ common xs ys) (common xs ys)) r ≡ ((x == r || contains xs r) && contains ys r)
common_first x r xs ys true true is here h =
    let there : contains ys r ≡ true = rw (← eqb-true x r here) is in
    rw (here, there) refl
common_first x r xs ys true false is here h = rw here h
common_first x r xs ys false true is here h =
    let none : contains ys r ≡ false = rw (← eqb-true x r here) is in
    h ∙ ap (λ b. contains xs r && b) none ∙ and_false (contains xs r) ∙ sym (ap (λ b. (x == r || contains xs r) && b) none ∙ and_false (x == r || contains xs r))
common_first x r xs ys false false is here h = rw here h

pub common_is : (xs ys : List ℕ) (r : ℕ) → contains (common xs ys) r ≡ (contains xs r && contains ys r)
common_is [] ys r = refl
common_is (x ∷ xs) ys r = common_first x r xs ys (contains ys x) (x == r) refl refl (common_is xs ys r)

but_first : (r q x : ℕ) (xs : List ℕ) (is here : Bool) → (r == x) ≡ is → (x == q) ≡ here → contains (all_but r xs) q ≡ (not (r == q) && contains xs q)
    → contains (cond (not is) (x ∷ all_but r xs) (all_but r xs)) q ≡ (not (r == q) && (x == q || contains xs q))
but_first r q x xs true true is here h =
    let both : (r == q) ≡ true = eq-eqb r q (eqb-true r x is ∙ eqb-true x q here) in
    h ∙ ap (λ b. not b && contains xs q) both ∙ sym (ap (λ b. not b && (x == q || contains xs q)) both)
but_first r q x xs true false is here h = rw here h
but_first r q x xs false true is here h =
    let differ : (r == q) ≡ false = rw (← eqb-true x q here) is in
    rw (here, differ) refl
but_first r q x xs false false is here h = rw here h

pub all_but_is : (r q : ℕ) (xs : List ℕ) → contains (all_but r xs) q ≡ (not (r == q) && contains xs q)
all_but_is r q [] = sym (and_false (not (r == q)))
all_but_is r q (x ∷ xs) = but_first r q x xs (r == x) (x == q) refl refl (all_but_is r q xs)
