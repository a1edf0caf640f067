-- The turn changes of writes, and the table that says where each stands.
use Rattle.std.proofs.Common.{◌≡◌, ℕ, zero, suc, ◌+◌, ◌<◌, ◌==◌, Bool, true, false, List, [], ◌∷◌, ◌++◌, length, get_or, Option, Some, None, ◌⊎◌, inl, inr, ⊎_elim, refl, sym, ap, ◌∙◌, subst, arith, if◌then◌else◌, eq-eqb}
use Rattle.std.specs.Prelude.{slice_get, slice_set}
use Rattle.std.specs.Option.{option_map_or}
use Rattle.std.proofs.lemmas.Bool.{eqb-true}
use Rattle.std.proofs.lemmas.Option.{get_or_from_slice_get}
use Rattle.logic4.specs.Vector.{Vector}
use Rattle.logic4.specs.Operators.{same_vector}
use Rattle.turn.specs.declared.log.TurnChange.{TurnChange}
use Rattle.turn.specs.TurnChanges.{first_turn_change, one_more_change, change_with_write, noted, turn_changes_after, turn_changes_of, is_turn_change_at, IsIndexOf, HasNoTurnChange}

false_where : (b : Bool) → (b ≡ true → ⊥) → b ≡ false
false_where true h = absurd (h refl)
false_where false h = refl

some_same : {A : Type 0} (x y : A) → Some x ≡ Some y → x ≡ y
some_same x y e = cc

-- ---- elements of changed lists

get_set : {A : Type 0} (xs : List A) (q : ℕ) (y : A) (p : ℕ) (x : A) → slice_get (slice_set xs q y) p ≡ Some x → ((p ≡ q) × (x ≡ y)) ⊎ (slice_get xs p ≡ Some x)
get_set [] q y p x e = inr e
get_set (z ∷ xs) zero y zero x e = inl (refl, sym (some_same _ _ e))
get_set (z ∷ xs) zero y (suc p) x e = inr e
get_set (z ∷ xs) (suc q) y zero x e = inr e
get_set (z ∷ xs) (suc q) y (suc p) x e =
    ⊎_elim (λ h. inl (ap suc h.0, h.1)) (λ h. inr h) (get_set xs q y p x e)

get_push : {A : Type 0} (xs : List A) (y : A) (p : ℕ) (x : A) → slice_get (xs ++ y ∷ []) p ≡ Some x → ((p ≡ length xs) × (x ≡ y)) ⊎ (slice_get xs p ≡ Some x)
get_push [] y zero x e = inl (refl, sym (some_same _ _ e))
get_push [] y (suc p) x e = cc
get_push (z ∷ xs) y zero x e = inr e
get_push (z ∷ xs) y (suc p) x e = ⊎_elim (λ h. inl (ap suc h.0, h.1)) (λ h. inr h) (get_push xs y p x e)

get_set_here : {A : Type 0} (xs : List A) (q : ℕ) (y : A) → q < length xs → slice_get (slice_set xs q y) q ≡ Some y
get_set_here [] q y lt = absurd (omega (arith, lt))
get_set_here (z ∷ xs) zero y lt = refl
get_set_here (z ∷ xs) (suc q) y lt = get_set_here xs q y (omega (arith, lt))

get_set_there : {A : Type 0} (xs : List A) (q : ℕ) (y : A) (p : ℕ) → (p ≡ q → ⊥) → slice_get (slice_set xs q y) p ≡ slice_get xs p
get_set_there [] q y p other = refl
get_set_there (z ∷ xs) zero y zero other = absurd (other refl)
get_set_there (z ∷ xs) zero y (suc p) other = refl
get_set_there (z ∷ xs) (suc q) y zero other = refl
get_set_there (z ∷ xs) (suc q) y (suc p) other = get_set_there xs q y p (λ e. other (ap suc e))

-- ---- the turn change at a place

turn_change_of : (o : Option TurnChange) (r : ℕ) → option_map_or (λ n. n.register == r) o false ≡ true → (n : TurnChange) × ((o ≡ Some n) × (n.register ≡ r))
turn_change_of None r e = cc
turn_change_of (Some n) r e = (n, (refl, eqb-true n.register r e))

pub at_turn_change : (turn_changes : List TurnChange) (p r : ℕ) → is_turn_change_at turn_changes p r ≡ true → (n : TurnChange) × ((slice_get turn_changes p ≡ Some n) × (n.register ≡ r))
at_turn_change turn_changes p r e = turn_change_of (slice_get turn_changes p) r e

-- this turn change stands at a place, and is that of a register
pub record IsTheTurnChange (turn_changes : List TurnChange) (p r : ℕ) (n : TurnChange) : Type 0 where
  pub is : slice_get turn_changes p ≡ Some n
  pub here : is_turn_change_at turn_changes p r ≡ true

pub the_turn_change_at : (turn_changes : List TurnChange) (p r : ℕ) (n : TurnChange) → is_turn_change_at turn_changes p r ≡ true → n ≡ get_or turn_changes p n → IsTheTurnChange turn_changes p r n
the_turn_change_at turn_changes p r n here is =
    let m = at_turn_change turn_changes p r here in
    let same : n ≡ m.0 = is ∙ get_or_from_slice_get turn_changes p m.0 n m.1.0 in
    record { is = m.1.0 ∙ ap Some (sym same); here = here }

-- the table leads to it
found : (turn_changes : List TurnChange) (places : List ℕ) (p r : ℕ) → IsIndexOf turn_changes places → is_turn_change_at turn_changes p r ≡ true → slice_get places r ≡ Some p
found turn_changes places p r placed e =
    let n = at_turn_change turn_changes p r e in
    subst (λ q. slice_get places q ≡ Some p) n.1.1 (placed p n.0 n.1.0)

pub none_listed : (turn_changes : List TurnChange) (places : List ℕ) (r : ℕ) → IsIndexOf turn_changes places → slice_get places r ≡ None → HasNoTurnChange turn_changes r
none_listed turn_changes places r placed none = λ p. false_where (is_turn_change_at turn_changes p r) (λ e. let f = found turn_changes places p r placed e in cc)

pub none_there : (turn_changes : List TurnChange) (places : List ℕ) (q r : ℕ) → IsIndexOf turn_changes places → slice_get places r ≡ Some q → is_turn_change_at turn_changes q r ≡ false → HasNoTurnChange turn_changes r
none_there turn_changes places q r placed some not =
    λ p. false_where (is_turn_change_at turn_changes p r)
    (λ e.
    let f : slice_get places r ≡ Some p = found turn_changes places p r placed e in
    let same : p ≡ q = cc in
    let there : is_turn_change_at turn_changes q r ≡ true = subst (λ x. is_turn_change_at turn_changes x r ≡ true) same e in
    cc)

-- ---- one more write

-- in a new turn change
noted_here : (b : Bool) (n : TurnChange) (ns : List TurnChange) (w : ℕ × Vector) → (n.register == w.0) ≡ b → noted (n ∷ ns) w ≡ (if b then change_with_write n w.1 ∷ ns else n ∷ noted ns w)
noted_here b n ns w e = ap (λ t. if t then change_with_write n w.1 ∷ ns else n ∷ noted ns w) e

pub noted_new : (turn_changes : List TurnChange) (w : ℕ × Vector) → HasNoTurnChange turn_changes w.0 → noted turn_changes w ≡ turn_changes ++ first_turn_change w ∷ []
noted_new [] w none = refl
noted_new (n ∷ ns) w none = noted_here false n ns w (none 0) ∙ ap (λ x. n ∷ x) (noted_new ns w (λ p. none (suc p)))

-- in the turn change of its register
noted_there : (turn_changes : List TurnChange) (q : ℕ) (n : TurnChange) (w : ℕ × Vector) → slice_get turn_changes q ≡ Some n → is_turn_change_at turn_changes q w.0 ≡ true → ((p : ℕ) → is_turn_change_at turn_changes p w.0 ≡ true → p ≡ q)
    → noted turn_changes w ≡ slice_set turn_changes q (change_with_write n w.1)
noted_there [] q n w is here only = cc
noted_there (m ∷ ms) zero n w is here only =
    noted_here true m ms w here ∙ ap (λ x. change_with_write x w.1 ∷ ms) (some_same m n is)
noted_there (m ∷ ms) (suc q) n w is here only =
    noted_here false m ms w (false_where (m.register == w.0) (λ e. let no : 0 ≡ suc q = only 0 e in absurd (omega (arith, no))))
    ∙ ap (λ x. m ∷ x) (noted_there ms q n w is here (λ p e. let same : suc p ≡ suc q = only (suc p) e in omega (arith, same)))

pub noted_at : (turn_changes : List TurnChange) (places : List ℕ) (q : ℕ) (n : TurnChange) (w : ℕ × Vector) → IsIndexOf turn_changes places → slice_get turn_changes q ≡ Some n → is_turn_change_at turn_changes q w.0 ≡ true
    → noted turn_changes w ≡ slice_set turn_changes q (change_with_write n w.1)
noted_at turn_changes places q n w placed is here =
    noted_there turn_changes q n w is here
    (λ p e.
    let a : slice_get places w.0 ≡ Some p = found turn_changes places p w.0 placed e in
    let b : slice_get places w.0 ≡ Some q = found turn_changes places q w.0 placed here in
    cc)

-- ---- the table after it

pub placed_set : (turn_changes : List TurnChange) (places : List ℕ) (q : ℕ) (n : TurnChange) (v : Vector) → IsIndexOf turn_changes places → slice_get turn_changes q ≡ Some n → IsIndexOf (slice_set turn_changes q (change_with_write n v)) places
placed_set turn_changes places q n v placed is = λ p x e.
    ⊎_elim
    (λ h. subst (λ m. slice_get places m.register ≡ Some p) (sym h.1) (subst (λ k. slice_get places n.register ≡ Some k) (sym h.0) (placed q n is)))
    (λ h. placed p x h)
    (get_set turn_changes q (change_with_write n v) p x e)

pub placed_more : (turn_changes : List TurnChange) (places places' : List ℕ) → IsIndexOf turn_changes places → ((r p : ℕ) → slice_get places r ≡ Some p → slice_get places' r ≡ Some p) → IsIndexOf turn_changes places'
placed_more turn_changes places places' placed kept = λ p n e. kept n.register p (placed p n e)

pub placed_push : (turn_changes : List TurnChange) (places : List ℕ) (w : ℕ × Vector) → IsIndexOf turn_changes places → HasNoTurnChange turn_changes w.0 → w.0 < length places
    → IsIndexOf (turn_changes ++ first_turn_change w ∷ []) (slice_set places w.0 (length turn_changes))
placed_push turn_changes places w placed none lt = λ p x e.
    ⊎_elim
    (λ h. subst (λ m. slice_get (slice_set places w.0 (length turn_changes)) m.register ≡ Some p) (sym h.1)
    (subst (λ k. slice_get (slice_set places w.0 (length turn_changes)) w.0 ≡ Some k) (sym h.0) (get_set_here places w.0 (length turn_changes) lt)))
    (λ h.
    let other : x.register ≡ w.0 → ⊥ =
    (λ same.
    let no : (x.register == w.0) ≡ false = sym (ap (λ o. option_map_or (λ n. n.register == w.0) o false) h) ∙ none p in
    let yes' : (x.register == w.0) ≡ true = subst (λ r. (x.register == r) ≡ true) same (eq-eqb x.register x.register refl) in
    cc) in
    get_set_there places w.0 (length turn_changes) x.register other ∙ placed p x h)
    (get_push turn_changes (first_turn_change w) p x e)

-- ---- turn changes of more writes

turn_changes_after_more : (turn_changes : List TurnChange) (ws : List (ℕ × Vector)) (w : ℕ × Vector) → turn_changes_after turn_changes (ws ++ w ∷ []) ≡ noted (turn_changes_after turn_changes ws) w
turn_changes_after_more turn_changes [] w = refl
turn_changes_after_more turn_changes (u ∷ ws) w = turn_changes_after_more (noted turn_changes u) ws w

pub turn_changes_of_more : (ws : List (ℕ × Vector)) (w : ℕ × Vector) → turn_changes_of (ws ++ w ∷ []) ≡ noted (turn_changes_of ws) w
turn_changes_of_more ws w = turn_changes_after_more [] ws w

-- a register was changed by fewer writes than there are
AreBelow : ℕ → List TurnChange → Type 0
AreBelow k turn_changes = (p : ℕ) (n : TurnChange) → slice_get turn_changes p ≡ Some n → n.changes < k

one_more_within : (b : Bool) (changes k : ℕ) → changes < k → one_more_change b changes < k + 1
one_more_within true changes k lt = omega (arith, lt)
one_more_within false changes k lt = omega (arith, lt)

below_here : (b : Bool) (m : TurnChange) (ms : List TurnChange) (k : ℕ) (w : ℕ × Vector) → AreBelow k (m ∷ ms) → AreBelow (k + 1) (noted ms w) → (m.register == w.0) ≡ b → AreBelow (k + 1) (noted (m ∷ ms) w)
unfolding AreBelow
below_here true m ms k w h rest is zero n e =
    let same : change_with_write m w.1 ≡ n = some_same _ _ (sym (ap (λ l. slice_get l 0) (noted_here true m ms w is)) ∙ e) in
    subst (λ x. x.changes < k + 1) same (one_more_within (same_vector m.last w.1) m.changes k (h 0 m refl))
below_here true m ms k w h rest is (suc p) n e =
    let lt : n.changes < k = h (suc p) n (sym (ap (λ l. slice_get l (suc p)) (noted_here true m ms w is)) ∙ e) in
    omega (arith, lt)
below_here false m ms k w h rest is zero n e =
    let same : m ≡ n = some_same _ _ (sym (ap (λ l. slice_get l 0) (noted_here false m ms w is)) ∙ e) in
    let lt : m.changes < k = h 0 m refl in
    subst (λ x. x.changes < k + 1) same (omega (arith, lt))
below_here false m ms k w h rest is (suc p) n e =
    rest p n (sym (ap (λ l. slice_get l (suc p)) (noted_here false m ms w is)) ∙ e)

below_noted : (turn_changes : List TurnChange) (k : ℕ) (w : ℕ × Vector) → AreBelow k turn_changes → AreBelow (k + 1) (noted turn_changes w)
unfolding AreBelow
below_noted [] k w h zero n e = subst (λ m. m.changes < k + 1) (some_same _ _ e) (omega arith)
below_noted [] k w h (suc p) n e = cc
below_noted (m ∷ ms) k w h p n e = below_here (m.register == w.0) m ms k w h (below_noted ms k w (λ q x d. h (suc q) x d)) refl p n e

-- the writes of a turn
below_after : (turn_changes : List TurnChange) (k : ℕ) (ws : List (ℕ × Vector)) → AreBelow k turn_changes → AreBelow (k + length ws) (turn_changes_after turn_changes ws)
unfolding AreBelow
below_after turn_changes k [] h = λ p n e. let lt : n.changes < k = h p n e in omega (arith, lt)
below_after turn_changes k (w ∷ ws) h = λ p n e.
    let lt : n.changes < k + 1 + length ws = below_after (noted turn_changes w) (k + 1) ws (below_noted turn_changes k w h) p n e in
    omega (arith, lt)

pub few_changes : (ws : List (ℕ × Vector)) (p : ℕ) (n : TurnChange) → slice_get (turn_changes_of ws) p ≡ Some n → n.changes < length ws
unfolding AreBelow
few_changes ws p n e =
    let lt : n.changes < 0 + length ws = below_after [] 0 ws (λ q m d. cc) p n e in
    omega (arith, lt)
