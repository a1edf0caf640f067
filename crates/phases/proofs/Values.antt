-- The values that a block's writes leave.
use Rattle.std.proofs.Common.{◌≡◌, ℕ, zero, suc, Bool, true, false, ◌||◌, List, [], ◌∷◌, map, length, refl, sym, ◌∙◌, if◌then◌else◌, ◌==◌, arith}
use Rattle.std.specs.Prelude.{slice_set}
use Rattle.std.proofs.lemmas.Bool.{eqb-true}
use Rattle.std.proofs.lemmas.Bool.Decides.{eqb_tells}
use Rattle.logic4.specs.Vector.{Vector}
use Rattle.logic4.specs.Operators.{same_vector}
use Rattle.logic4.specs.Sameness.{same_vector-true}
use Rattle.model.specs.Expressions.{Store, value_of}
use Rattle.model.specs.Turns.{contains}
use Rattle.orders.specs.Apart.{given, all_given}
use Rattle.orders.proofs.TurnFrame.{value_own}
use Rattle.orders.proofs.Stores.{same_store, length_given, given_other, given_both, length_all, all_other}

-- writes leave registers that were equal equal

both_first : (a b : Store) (w : ℕ × Vector) (r : ℕ) (is : Bool) → (w.0 == r) ≡ is → length a ≡ length b → value_of a r ≡ value_of b r → value_of (given a w) r ≡ value_of (given b w) r
both_first a b w r true is len h =
    let own : value_of a w.0 ≡ value_of b w.0 = rw (eqb-true w.0 r is) h in
    given_both a b w r len own h
both_first a b w r false is len h =
    let other : (r == w.0) ≡ false = grind (arith, eqb_tells r w.0, eqb_tells w.0 r, is) in
    given_other a w r other ∙ h ∙ sym (given_other b w r other)

pub all_both : (a b : Store) (ws : List (ℕ × Vector)) (r : ℕ) → length a ≡ length b → value_of a r ≡ value_of b r → value_of (all_given a ws) r ≡ value_of (all_given b ws) r
all_both a b [] r len h = h
all_both a b (w ∷ ws) r len h =
    all_both (given a w) (given b w) ws r (length_given a w ∙ len ∙ sym (length_given b w)) (both_first a b w r (w.0 == r) refl len h)

-- a write sets its register, whatever stood there

kept_own : (a : Store) (r : ℕ) (v : Vector) → value_of a r ≡ v → value_of (slice_set a r v) r ≡ value_of a r
kept_own [] r v is = refl
kept_own (x ∷ a) zero v is = sym is
kept_own (x ∷ a) (suc r) v is = kept_own a r v is

kept : (a b : Store) (w : ℕ × Vector) → same_vector (value_of a w.0) w.1 ≡ true → length a ≡ length b → value_of a w.0 ≡ value_of (slice_set b w.0 w.1) w.0
kept a b w is len = sym (kept_own a w.0 w.1 (same_vector-true (value_of a w.0) w.1 is)) ∙ value_own a b w.0 w.1 len

set_if : (a b : Store) (w : ℕ × Vector) (here there : Bool) → same_vector (value_of a w.0) w.1 ≡ here → same_vector (value_of b w.0) w.1 ≡ there → length a ≡ length b
    → value_of (if here then a else slice_set a w.0 w.1) w.0 ≡ value_of (if there then b else slice_set b w.0 w.1) w.0
set_if a b w true true is is' len = same_vector-true (value_of a w.0) w.1 is ∙ sym (same_vector-true (value_of b w.0) w.1 is')
set_if a b w true false is is' len = kept a b w is len
set_if a b w false true is is' len = sym (kept b a w is' (sym len))
set_if a b w false false is is' len = value_own a b w.0 w.1 len

given_own : (a b : Store) (w : ℕ × Vector) → length a ≡ length b → value_of (given a w) w.0 ≡ value_of (given b w) w.0
given_own a b w len = set_if a b w (same_vector (value_of a w.0) w.1) (same_vector (value_of b w.0) w.1) refl refl len

-- what is written has one value, whatever stood there

written_if : (a b : Store) (w : ℕ × Vector) (ws : List (ℕ × Vector)) (r : ℕ) (here later : Bool) → (w.0 == r) ≡ here → contains (map (λ (w : ℕ × Vector). w.0) ws) r ≡ later → (here || later) ≡ true
    → length a ≡ length b → (later ≡ true → value_of (all_given (given a w) ws) r ≡ value_of (all_given (given b w) ws) r)
    → value_of (all_given (given a w) ws) r ≡ value_of (all_given (given b w) ws) r
written_if a b w ws r here true is is' h len rest = rest refl
written_if a b w ws r true false is is' h len rest =
    let own : value_of (given a w) r ≡ value_of (given b w) r = rw (← eqb-true w.0 r is) (given_own a b w len) in
    all_both (given a w) (given b w) ws r (length_given a w ∙ len ∙ sym (length_given b w)) own
written_if a b w ws r false false is is' h len rest = cc

pub written_same : (a b : Store) (ws : List (ℕ × Vector)) (r : ℕ) → length a ≡ length b → contains (map (λ (w : ℕ × Vector). w.0) ws) r ≡ true → value_of (all_given a ws) r ≡ value_of (all_given b ws) r
written_same a b [] r len h = cc
written_same a b (w ∷ ws) r len h =
    written_if a b w ws r (w.0 == r) (contains (map (λ (w : ℕ × Vector). w.0) ws) r) refl refl h len
    (λ later. written_same (given a w) (given b w) ws r (length_given a w ∙ len ∙ sym (length_given b w)) later)

-- the same writes once more change nothing

again_if : (a : Store) (ws : List (ℕ × Vector)) (r : ℕ) (is : Bool) → contains (map (λ (w : ℕ × Vector). w.0) ws) r ≡ is → value_of (all_given (all_given a ws) ws) r ≡ value_of (all_given a ws) r
again_if a ws r true is = written_same (all_given a ws) a ws r (length_all a ws) is
again_if a ws r false is = all_other (all_given a ws) ws r is

pub written_again : (a : Store) (ws : List (ℕ × Vector)) → all_given (all_given a ws) ws ≡ all_given a ws
written_again a ws =
    same_store (all_given (all_given a ws) ws) (all_given a ws) (length_all (all_given a ws) ws)
    (λ r. again_if a ws r (contains (map (λ (w : ℕ × Vector). w.0) ws) r) refl)
