-- Values behind writes, and the changes that writes make one after another.
use Rattle.std.proofs.Common.{◌≡◌, ℕ, zero, suc, ◌+◌, ◌<◌, ◌==◌, ◌||◌, Bool, true, false, List, [], ◌∷◌, ◌++◌, map, length, take, drop, get_or, refl, sym, ap, subst, ◌∙◌, arith, append_assoc, eqb-true, if◌then◌else◌}
use Rattle.std.specs.Prelude.{slice_set, slice_get, ◌≢◌, Some, None}
use Rattle.std.specs.List.{All}
use Rattle.std.proofs.lemmas.List.{take_more, drop_more, append-nil, get_or-map, get_or-set_same, length-map}
use Rattle.std.proofs.lemmas.List.Elements.{All-append, All-head, All-tail}
use Rattle.std.proofs.Math.Seq.{map-set_same}
use Rattle.logic4.specs.Vector.{Vector}
use Rattle.logic4.specs.Operators.{same_vector}
use Rattle.logic4.specs.Sameness.{same_vector-true}
use Rattle.model.specs.Expressions.{Store, value_of}
use Rattle.model.specs.Turns.{contains}
use Rattle.orders.specs.Apart.{given, all_given}
use Rattle.orders.proofs.Stores.{length_given, all_other}
use Rattle.design.specs.Fits.{FitsRegister}
use Rattle.footprints.specs.Footprints.{RegisterChange, change_made, changes_made}
use Rattle.noted.specs.NotedSteps.{AreWritesOf, KeepWidths}

-- values

own_if : (a : Store) (w : ℕ × Vector) (b : Bool) → same_vector (value_of a w.0) w.1 ≡ b → w.0 < length a → value_of (if b then a else slice_set a w.0 w.1) w.0 ≡ w.1
own_if a w true is lt = same_vector-true (value_of a w.0) w.1 is
own_if a w false is lt = get_or-set_same a w.0 w.1 [] lt

-- a register that is given a value has it
given_own : (a : Store) (w : ℕ × Vector) → w.0 < length a → value_of (given a w) w.0 ≡ w.1
given_own a w lt = own_if a w (same_vector (value_of a w.0) w.1) refl lt

last_here : (a : Store) (v w : ℕ × Vector) (ws : List (ℕ × Vector)) (r : ℕ) → w ≡ v → w.0 ≡ r → r < length a → contains (map (λ u. u.0) ws) r ≡ false → value_of (all_given (given a v) ws) r ≡ w.1
last_here a v w ws r is own lt none =
    let at : v.0 ≡ r = ap (λ (u : ℕ × Vector). u.0) (sym is) ∙ own in
    all_other (given a v) ws r none ∙ ap (λ q. value_of (given a v) q) (sym at) ∙ given_own a v (subst (λ q. q < length a) (sym at) lt) ∙ ap (λ (u : ℕ × Vector). u.1) (sym is)

-- behind its last write a register has the value that was written
pub value_last : (a : Store) (ws : List (ℕ × Vector)) (k r : ℕ) (w : ℕ × Vector) → k < length ws → w ≡ get_or ws k w → w.0 ≡ r → r < length a
    → contains (map (λ u. u.0) (drop (suc k) ws)) r ≡ false → value_of (all_given a ws) r ≡ w.1
value_last a [] k r w within is own lt none = absurd (omega (arith, within))
value_last a (v ∷ ws) zero r w within is own lt none = last_here a v w ws r is own lt none
value_last a (v ∷ ws) (suc k) r w within is own lt none =
    value_last (given a v) ws k r w (omega (arith, within)) is own (subst (λ n. r < n) (sym (length_given a v)) lt) none

-- none of the writes from a place on is of a register, where the first of them isn't
pub none_from : (ws : List (ℕ × Vector)) (k r : ℕ) (w : ℕ × Vector) → k < length ws → w ≡ get_or ws k w → w.0 ≢ r → contains (map (λ u. u.0) (drop (k + 1) ws)) r ≡ false
    → contains (map (λ u. u.0) (drop k ws)) r ≡ false
none_from ws k r w lt is other none =
    let more : drop k ws ≡ w ∷ drop (k + 1) ws = drop_more ws k w lt ∙ ap (λ u. u ∷ drop (k + 1) ws) (sym is) in
    ap (λ us. contains (map (λ u. u.0) us) r) more ∙ ap (λ b. b || contains (map (λ u. u.0) (drop (k + 1) ws)) r) (differ (w.0 == r) w.0 r refl other) ∙ none
  where
    differ : (b : Bool) (m n : ℕ) → (m == n) ≡ b → m ≢ n → b ≡ false
    differ true m n same not_it = absurd (not_it (eqb-true m n same))
    differ false m n same not_it = refl

element_at : (a : Store) (r : ℕ) (v : Vector) → slice_get a r ≡ Some v → value_of a r ≡ v
element_at [] r v is = cc
element_at (x ∷ a) zero v is = cc
element_at (x ∷ a) (suc r) v is = element_at a r v is

-- behind writes of others a register has the value that it had
pub value_kept : (a : Store) (ws : List (ℕ × Vector)) (r : ℕ) (v : Vector) → contains (map (λ u. u.0) ws) r ≡ false → slice_get a r ≡ Some v → value_of (all_given a ws) r ≡ v
value_kept a ws r v none is = all_other a ws r none ∙ element_at a r v is

-- a register that the store has is found
pub no_value : (a : Store) (r : ℕ) → r < length a → slice_get a r ≡ None → ⊥
no_value [] r lt is = omega (arith, lt)
no_value (x ∷ a) zero lt is = cc
no_value (x ∷ a) (suc r) lt is = no_value a r (omega (arith, lt)) is

-- changes

changes-append : (a : Store) (ws vs : List (ℕ × Vector)) → changes_made a (ws ++ vs) ≡ changes_made a ws ++ changes_made (all_given a ws) vs
changes-append a [] vs = refl
changes-append a (w ∷ ws) vs =
    ap (λ cs. change_made (value_of a w.0) w ++ cs) (changes-append (given a w) ws vs)
    ∙ sym (append_assoc (change_made (value_of a w.0) w) (changes_made (given a w) ws) (changes_made (all_given (given a w) ws) vs))

-- one write more
pub changes_more : (a : Store) (ws : List (ℕ × Vector)) (i : ℕ) (w : ℕ × Vector) → i < length ws → w ≡ get_or ws i w
    → changes_made a (take (i + 1) ws) ≡ changes_made a (take i ws) ++ change_made (value_of (all_given a (take i ws)) w.0) w
changes_more a ws i w lt is =
    let front : List (ℕ × Vector) = take i ws in
    ap (changes_made a) (take_more ws i w lt ∙ ap (λ u. front ++ u ∷ []) (sym is)) ∙ changes-append a front (w ∷ [])
    ∙ ap (λ cs. changes_made a front ++ cs) (append-nil (change_made (value_of (all_given a front) w.0) w))

-- widths

width_is : (a : Store) (r : ℕ) (v : Vector) → FitsRegister (map length a) r v → length v ≡ length (value_of a r)
width_is a r v fits =
    let lt : r < length a = subst (λ n. r < n) (length-map a length) fits.0 in
    fits.1 ∙ get_or-map length a r [] 0 lt

widths_if : (a : Store) (w : ℕ × Vector) (b : Bool) → FitsRegister (map length a) w.0 w.1 → map length (if b then a else slice_set a w.0 w.1) ≡ map length a
widths_if a w true fits = refl
widths_if a w false fits = map-set_same length a w.0 w.1 [] (width_is a w.0 w.1 fits)

all_one : {A : Type 0} (P : A → Type 0) (x : A) → P x → All P (x ∷ [])
all_one P x h zero d lt = h
all_one P x h (suc k) d lt = absurd (omega (arith, lt))

keeps_if : (a : Store) (w : ℕ × Vector) (b : Bool) → FitsRegister (map length a) w.0 w.1 → KeepWidths (if b then [] else record { register = w.0; before = value_of a w.0; after = w.1 } ∷ [])
keeps_if a w true fits = λ k d lt. absurd (omega (arith, lt))
keeps_if a w false fits =
    all_one (λ (c : RegisterChange). length c.before ≡ length c.after) (record { register = w.0; before = value_of a w.0; after = w.1 }) (sym (width_is a w.0 w.1 fits))

-- the changes of writes that fit keep the widths
pub keep_widths : (a : Store) (ws : List (ℕ × Vector)) → AreWritesOf a ws → KeepWidths (changes_made a ws)
keep_widths a [] fit = λ k d lt. absurd (omega (arith, lt))
keep_widths a (w ∷ ws) fit =
    let P : ℕ × Vector → Type 0 = λ u. FitsRegister (map length a) u.0 u.1 in
    let first : FitsRegister (map length a) w.0 w.1 = All-head P w ws fit in
    let same : map length (given a w) ≡ map length a = widths_if a w (same_vector (value_of a w.0) w.1) first in
    let rest : AreWritesOf (given a w) ws = subst (λ (ns : List ℕ). All (λ (u : ℕ × Vector). FitsRegister ns u.0 u.1) ws) (sym same) (All-tail P w ws fit) in
    All-append (λ (c : RegisterChange). length c.before ≡ length c.after) (change_made (value_of a w.0) w) (changes_made (given a w) ws)
    (keeps_if a w (same_vector (value_of a w.0) w.1) first) (keep_widths (given a w) ws rest)
