-- The changes that writes make of stores.
use Rattle.std.proofs.Common.{◌≡◌, ℕ, Bool, true, false, ◌||◌, eq-eqb, List, [], ◌∷◌, ◌++◌, map, length, refl, ap, ◌∙◌, if◌then◌else◌, ◌==◌, arith}
use Rattle.std.specs.Prelude.{slice_set}
use Rattle.std.proofs.lemmas.Bool.Decides.{eqb_tells}
use Rattle.logic4.specs.Vector.{Vector}
use Rattle.logic4.specs.Operators.{same_vector}
use Rattle.model.specs.Expressions.{Store, value_of}
use Rattle.model.specs.Turns.{contains}
use Rattle.model.specs.Runs.{changes_of}
use Rattle.orders.specs.Apart.{AgreeOn, given, all_given}
use Rattle.orders.proofs.TurnFrame.{value_other}
use Rattle.orders.proofs.Stores.{length_given, given_both}
use Rattle.footprints.specs.Footprints.{RegisterChange, change_made, changes_made, changed_registers}

pub or_left : (a b : Bool) → a ≡ true → (a || b) ≡ true
or_left true b h = refl
or_left false b h = cc

pub or_right : (a b : Bool) → b ≡ true → (a || b) ≡ true
or_right true b h = refl
or_right false b h = h

pub neither : (a b : Bool) → (a || b) ≡ false → (a ≡ false) × (b ≡ false)
neither true b h = cc
neither false b h = (refl, h)

-- writes make the same changes of stores that have the same values of what they write
pub same_changes : (a b : Store) (ws : List (ℕ × Vector)) → length a ≡ length b → AgreeOn (map (λ w. w.0) ws) a b → changes_made a ws ≡ changes_made b ws
same_changes a b [] len h = refl
same_changes a b (w ∷ ws) len h =
    let own : value_of a w.0 ≡ value_of b w.0 = h w.0 (or_left (w.0 == w.0) (contains (map (λ w. w.0) ws) w.0) (eq-eqb w.0 w.0 refl)) in
    let later : changes_made (given a w) ws ≡ changes_made (given b w) ws =
    same_changes (given a w) (given b w) ws (omega (arith, length_given a w, length_given b w, len))
    (λ r is. given_both a b w r len own (h r (or_right (w.0 == r) (contains (map (λ w. w.0) ws) r) is))) in
    ap (λ v. change_made v w ++ changes_made (given a w) ws) own ∙ ap (λ cs. change_made (value_of b w.0) w ++ cs) later

-- the changes without the values before them
abbrev pub written_values : List RegisterChange → List (ℕ × Vector)
written_values cs = map (λ (c : RegisterChange). (c.register, c.after)) cs

-- the change of a write, where it is known whether it makes one
abbrev pub made_if : Bool → Vector → ℕ × Vector → List RegisterChange
made_if b old w = if b then [] else record { register = w.0; before = old; after = w.1 } ∷ []

values_if : (store : Store) (w : ℕ × Vector) (ws : List (ℕ × Vector)) (b : Bool) → changes_of store ws ≡ written_values (changes_made store ws)
    → changes_of (slice_set store w.0 w.1) ws ≡ written_values (changes_made (slice_set store w.0 w.1) ws)
    → (if b then changes_of store ws else w ∷ changes_of (slice_set store w.0 w.1) ws) ≡ written_values (made_if b (value_of store w.0) w ++ changes_made (if b then store else slice_set store w.0 w.1) ws)
values_if store w ws true g h = g
values_if store w ws false g h = ap (λ cs. w ∷ cs) h

-- the changes of an effect are these
pub values_made : (store : Store) (ws : List (ℕ × Vector)) → changes_of store ws ≡ written_values (changes_made store ws)
values_made store [] = refl
values_made store (w ∷ ws) =
    values_if store w ws (same_vector (value_of store w.0) w.1) (values_made store ws) (values_made (slice_set store w.0 w.1) ws)

unchanged_if : (a : Store) (w : ℕ × Vector) (ws : List (ℕ × Vector)) (r : ℕ) (b : Bool)
    → (contains (changed_registers (changes_made a ws)) r ≡ false → value_of (all_given a ws) r ≡ value_of a r)
    → (contains (changed_registers (changes_made (slice_set a w.0 w.1) ws)) r ≡ false → value_of (all_given (slice_set a w.0 w.1) ws) r ≡ value_of (slice_set a w.0 w.1) r)
    → contains (changed_registers (made_if b (value_of a w.0) w ++ changes_made (if b then a else slice_set a w.0 w.1) ws)) r ≡ false
    → value_of (all_given (if b then a else slice_set a w.0 w.1) ws) r ≡ value_of a r
unchanged_if a w ws r true g h none = g none
unchanged_if a w ws r false g h none =
    let (not_it, others) = neither (w.0 == r) (contains (changed_registers (changes_made (slice_set a w.0 w.1) ws)) r) none in
    let other : (r == w.0) ≡ false = grind (arith, eqb_tells r w.0, eqb_tells w.0 r, not_it) in
    h others ∙ value_other a w.0 r w.1 other

-- a register that no change is of keeps its value
pub unchanged : (a : Store) (ws : List (ℕ × Vector)) (r : ℕ) → contains (changed_registers (changes_made a ws)) r ≡ false → value_of (all_given a ws) r ≡ value_of a r
unchanged a [] r none = refl
unchanged a (w ∷ ws) r none =
    unchanged_if a w ws r (same_vector (value_of a w.0) w.1) (unchanged a ws r) (unchanged (slice_set a w.0 w.1) ws r) none
