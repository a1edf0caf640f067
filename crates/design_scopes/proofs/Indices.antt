-- The indices of an array, one after another.
use Rattle.std.proofs.Common.{◌≡◌, ◌≢◌, ℕ, ◌+◌, ◌<◌, Bool, true, false, if◌then◌else◌, List, [], ◌∷◌, ◌++◌, length, map, refl, sym, ap, subst, ◌∙◌, arith, T, ℤ, pos, negsuc, neg_ℤ, ◌+ℤ◌, ◌-ℤ◌, ◌<ℤ◌, ◌≤ℤ◌}
use Rattle.std.specs.Prelude.{int_lt, unsigned_abs}
use Rattle.std.specs.List.{range_with_len}
use Rattle.std.proofs.lemmas.Int.{ints}
use Rattle.std.proofs.lemmas.List.{length_push}
use Rattle.std.proofs.lemmas.List.FromFn.{map-range_with_len_more}
use Rattle.ranges.specs.declared.range.VectorRange.{VectorRange}
use Rattle.ranges.specs.Ranges.{range_width}
use Rattle.design_scopes.specs.Values.{index_at, indices_of}

less_is : (a b : ℤ) → a <ℤ b → int_lt a b ≡ true
less_is a b h = grind (arith, ints)

not_less : (a b : ℤ) → b ≤ℤ a → int_lt a b ≡ false
not_less a b h = grind (arith, ints)

less_of : (a b : ℤ) → int_lt a b ≡ true → a <ℤ b
less_of a b h = record { lt = subst T (sym h) tt }

at_most_of : (a b : ℤ) → int_lt a b ≡ false → b ≤ℤ a
at_most_of a b h = grind (arith, ints)

abs_below : (z : ℤ) → z <ℤ pos 0 → z ≡ neg_ℤ (pos (unsigned_abs z))
abs_below (pos n) h = absurd (omega (arith, ints, h))
abs_below (negsuc n) h = refl

abs_above : (z : ℤ) → pos 0 ≤ℤ z → z ≡ pos (unsigned_abs z)
abs_above (pos n) h = refl
abs_above (negsuc n) h = absurd (omega (arith, ints, h))

-- one step nearer to a last number
abbrev pub nearer : ℤ → ℤ → ℤ
nearer x l = if int_lt x l then x +ℤ pos 1 else x -ℤ pos 1

-- a number so many steps behind a first one, by whether they go up
abbrev stepped : Bool → ℤ → ℕ → ℤ
stepped t m k = if t then m +ℤ pos k else m -ℤ pos k

record IsStep (t : Bool) (m l y : ℤ) (k : ℕ) : Type 0 where
  next : y ≡ stepped t m (k + 1)
  within : k + 1 < unsigned_abs (m -ℤ l) + 1

step_by : (t : Bool) (m l x y : ℤ) (k : ℕ) → int_lt m l ≡ t → x ≡ stepped t m k → k < unsigned_abs (m -ℤ l) + 1 → x ≢ l → y ≡ nearer x l → IsStep t m l y k
step_by true m l x y k h is below differs e =
    let under : m <ℤ l = less_of m l h in
    let gap : m -ℤ l ≡ neg_ℤ (pos (unsigned_abs (m -ℤ l))) = abs_below (m -ℤ l) (omega (arith, ints, under)) in
    let apart : k ≡ unsigned_abs (m -ℤ l) → ⊥ = λ q. differs (omega (arith, ints, gap, is, q)) in
    let within : k + 1 < unsigned_abs (m -ℤ l) + 1 = omega (arith, apart, below) in
    let below_last : x <ℤ l = omega (arith, ints, gap, is, within) in
    let up : y ≡ x +ℤ pos 1 = e ∙ ap (λ (b : Bool). if b then x +ℤ pos 1 else x -ℤ pos 1) (less_is x l below_last) in
    record { next = omega (arith, ints, up, is); within = within }
step_by false m l x y k h is below differs e =
    let over : l ≤ℤ m = at_most_of m l h in
    let gap : m -ℤ l ≡ pos (unsigned_abs (m -ℤ l)) = abs_above (m -ℤ l) (omega (arith, ints, over)) in
    let apart : k ≡ unsigned_abs (m -ℤ l) → ⊥ = λ q. differs (omega (arith, ints, gap, is, q)) in
    let within : k + 1 < unsigned_abs (m -ℤ l) + 1 = omega (arith, apart, below) in
    let above_last : l ≤ℤ x = omega (arith, ints, gap, is, within) in
    let down : y ≡ x -ℤ pos 1 = e ∙ ap (λ (b : Bool). if b then x +ℤ pos 1 else x -ℤ pos 1) (not_less x l above_last) in
    record { next = omega (arith, ints, down, is); within = within }

last_by : (t : Bool) (m l x : ℤ) (k : ℕ) → int_lt m l ≡ t → x ≡ stepped t m k → k < unsigned_abs (m -ℤ l) + 1 → x ≡ l → k + 1 ≡ unsigned_abs (m -ℤ l) + 1
last_by true m l x k h is below same =
    let under : m <ℤ l = less_of m l h in
    let gap : m -ℤ l ≡ neg_ℤ (pos (unsigned_abs (m -ℤ l))) = abs_below (m -ℤ l) (omega (arith, ints, under)) in
    let count : k ≡ unsigned_abs (m -ℤ l) = omega (arith, ints, gap, is, same) in
    ap (λ (n : ℕ). n + 1) count
last_by false m l x k h is below same =
    let over : l ≤ℤ m = at_most_of m l h in
    let gap : m -ℤ l ≡ pos (unsigned_abs (m -ℤ l)) = abs_above (m -ℤ l) (omega (arith, ints, over)) in
    let count : k ≡ unsigned_abs (m -ℤ l) = omega (arith, ints, gap, is, same) in
    ap (λ (n : ℕ). n + 1) count

-- Numbers are the first indices of an array, and this is the next one.
pub record AreIndices (r : VectorRange) (xs : List ℤ) (x : ℤ) : Type 0 where
  pub same : xs ≡ map (index_at r) (range_with_len 0 (length xs))
  pub next : x ≡ index_at r (length xs)
  pub within : length xs < range_width r

first_by : (t : Bool) (m : ℤ) → m ≡ stepped t m 0
first_by true m = omega (arith, ints)
first_by false m = omega (arith, ints)

pub none_yet : (r : VectorRange) → AreIndices r [] r.most
none_yet r = record { same = refl; next = first_by (int_lt r.most r.least) r.most; within = omega arith }

-- so many indices and one more
pushed : (r : VectorRange) (xs ys : List ℤ) (x y : ℤ) → AreIndices r xs x → ys ≡ xs ++ y ∷ [] → y ≡ x → ys ≡ map (index_at r) (range_with_len 0 (length xs + 1))
pushed r xs ys x y a e is =
    e ∙ ap (λ (zs : List ℤ). zs ++ y ∷ []) a.same ∙ ap (λ (z : ℤ). map (index_at r) (range_with_len 0 (length xs)) ++ z ∷ []) (is ∙ a.next)
    ∙ sym (map-range_with_len_more (index_at r) 0 (length xs) (length xs) (omega arith))

pub one_more : (r : VectorRange) (xs ys : List ℤ) (x y z : ℤ) → AreIndices r xs x → ys ≡ xs ++ y ∷ [] → y ≡ x → x ≢ r.least → z ≡ nearer x r.least → AreIndices r ys z
one_more r xs ys x y z a e is differs step =
    let longer : length ys ≡ length xs + 1 = ap length e ∙ length_push xs y in
    let s = step_by (int_lt r.most r.least) r.most r.least x z (length xs) refl a.next a.within differs step in
    record {
      same = pushed r xs ys x y a e is ∙ ap (λ (n : ℕ). map (index_at r) (range_with_len 0 n)) (sym longer);
      next = s.next ∙ ap (index_at r) (sym longer);
      within = omega (arith, longer, s.within);
    }

pub all_there : (r : VectorRange) (xs ys : List ℤ) (x y : ℤ) → AreIndices r xs x → ys ≡ xs ++ y ∷ [] → y ≡ x → x ≡ r.least → ys ≡ indices_of r
all_there r xs ys x y a e is last =
    pushed r xs ys x y a e is
    ∙ ap (λ (n : ℕ). map (index_at r) (range_with_len 0 n)) (last_by (int_lt r.most r.least) r.most r.least x (length xs) refl a.next a.within last)

-- the same, of numbers that are equal to those that the program passes on
pub first_index : (r : VectorRange) (xs : List ℤ) (x : ℤ) → xs ≡ [] → x ≡ r.most → AreIndices r xs x
first_index r xs x none is =
    subst (λ (ys : List ℤ). AreIndices r ys x) (sym none) (subst (λ (z : ℤ). AreIndices r [] z) (sym is) (none_yet r))

pub more_indices : (r : VectorRange) (xs ys : List ℤ) (x y z u v t : ℤ) → AreIndices r xs x → ys ≡ xs ++ y ∷ [] → y ≡ x → x ≢ r.least → z ≡ nearer u v → u ≡ x → v ≡ r.least → t ≡ z → AreIndices r ys t
more_indices r xs ys x y z u v t a e is differs step from to same =
    one_more r xs ys x y t a e is differs (same ∙ step ∙ ap (λ (w : ℤ). nearer w v) from ∙ ap (λ (w : ℤ). nearer x w) to)
