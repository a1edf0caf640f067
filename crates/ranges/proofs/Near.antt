-- Numbers that a range may have within it.
use Rattle.std.proofs.Common.{◌≡◌, ℕ, ◌^◌, ◌≤◌, ◌⊎◌, Bool, true, false, ◌&&◌, Option, Some, None, inl, inr, refl, sym, ap, subst, ◌∙◌, arith, T, ℤ, pos, negsuc, neg_ℤ, ◌≤ℤ◌, ◌<ℤ◌, if◌then◌else◌, zero, suc, ◌+◌, ◌-◌, ◌+ℤ◌, ◌-ℤ◌, w64, to_z, of_z}
use Rattle.std.specs.Prelude.{int_le, int_lt, unsigned_abs, nat_lt, nat_le}
use Rattle.std.proofs.lemmas.Bool.{and_parts}
use Rattle.std.proofs.lemmas.Bool.Decides.{nat_tests}
use Rattle.std.proofs.lemmas.Int.{ints}
use Rattle.logic4.specs.Vector.{greatest_width}
use Rattle.syntax_tree.specs.declared.expressions.PartForm.TheVariants.{Constant, Upward, Downward}
use Rattle.ranges.specs.declared.range.VectorRange.{VectorRange}
use Rattle.ranges.specs.declared.window.Window.{Window}
use Rattle.ranges.specs.Ranges.{IsNoFurther, IsWindow, farthest, is_near, near, natural, place_in, lower, part_place, vector_size}

by_test : (b : Bool) (y : ℤ) → Some y ≡ (if b then Some y else None) → b ≡ true
by_test true y h = refl
by_test false y h = absurd (cc)

at_most : (a b : ℤ) → int_le a b ≡ true → a ≤ℤ b
at_most a b h = record { le = subst T (sym h) tt }

within : (z : ℤ) → is_near z ≡ true → IsNoFurther farthest z
within z h =
    let both = and_parts (int_le (neg_ℤ (pos farthest)) z) (int_le z (pos farthest)) h in
    record { low = at_most (neg_ℤ (pos farthest)) z both.0; high = at_most z (pos farthest) both.1 }

near_is : (y z : ℤ) → Some y ≡ Some z → Some y ≡ near (Some y) → IsNoFurther farthest z
near_is y z e h = let same : y ≡ z = cc in subst (IsNoFurther farthest) same (within y (by_test (is_near y) y h))

pub near_within : (x : Option ℤ) (z : ℤ) → x ≡ near x → x ≡ Some z → IsNoFurther farthest z
near_within None z h e = absurd (cc)
near_within (Some y) z h e = near_is y z e h

pub within_more : (z : ℤ) → IsNoFurther farthest z → IsNoFurther (2 ^ 41) z
within_more z w = record { low = omega (arith, ints, w.low); high = omega (arith, ints, w.high) }

pub near_more : (x : Option ℤ) (z : ℤ) → x ≡ near x → x ≡ Some z → IsNoFurther (2 ^ 41) z
near_more x z h e = within_more z (near_within x z h e)

-- ---- widths

by_sides : (a b : Bool) (k : ℕ) → a ≡ true → b ≡ true → Some k ≡ (if a && b then Some k else None)
by_sides true true k p q = refl
by_sides true false k p q = absurd (cc)
by_sides false b k p q = absurd (cc)

by_lower : (a b : Bool) (k : ℕ) → a ≡ false → None ≡ (if a && b then Some k else None)
by_lower false b k p = refl
by_lower true b k p = absurd (cc)

by_upper : (a b : Bool) (k : ℕ) → b ≡ false → None ≡ (if a && b then Some k else None)
by_upper true false k p = refl
by_upper false b k p = refl
by_upper true true k p = absurd (cc)

pub size_some : (z : ℤ) (w : ℕ) → z ≡ pos w → 1 ≤ w → w ≤ greatest_width → Some w ≡ vector_size z
size_some z w e low high =
    let found : Some w ≡ vector_size (pos w) = by_sides (nat_lt 0 w) (nat_le w greatest_width) w (grind (arith, nat_tests)) (grind (arith, nat_tests)) in
    found ∙ ap vector_size (sym e)

none_below : (z : ℤ) → z <ℤ pos 1 → None ≡ vector_size z
none_below (pos k) h = by_lower (nat_lt 0 k) (nat_le k greatest_width) k (grind (arith, ints, nat_tests))
none_below (negsuc k) h = refl

none_above : (z : ℤ) → pos greatest_width <ℤ z → None ≡ vector_size z
none_above (pos k) h = by_upper (nat_lt 0 k) (nat_le k greatest_width) k (grind (arith, ints, nat_tests))
none_above (negsuc k) h = absurd (omega (arith, ints, h))

pub size_none : (z : ℤ) → (z <ℤ pos 1) ⊎ (pos greatest_width <ℤ z) → None ≡ vector_size z
size_none z (inl h) = none_below z h
size_none z (inr h) = none_above z h

least_by : (a b : Bool) (k w : ℕ) → (a ≡ true → 1 ≤ k) → Some w ≡ (if a && b then Some k else None) → 1 ≤ w
least_by true true k w p h = let same : w ≡ k = cc in omega (arith, same, p refl)
least_by true false k w p h = absurd (cc)
least_by false b k w p h = absurd (cc)

pub size_least : (z : ℤ) (w : ℕ) → Some w ≡ vector_size z → 1 ≤ w
size_least z w h = least_by (nat_lt 0 (natural z)) (nat_le (natural z) greatest_width) (natural z) w (λ t. grind (arith, nat_tests)) h

-- the size between two places, told by equations
pub size_between : (a b p q x : ℤ) (s : Option ℕ) → s ≡ vector_size x → x ≡ (a -ℤ b) +ℤ pos 1 → a ≡ p → b ≡ q → s ≡ vector_size ((p -ℤ q) +ℤ pos 1)
size_between a b p q x s h e f g = h ∙ ap vector_size e ∙ (λ i. vector_size ((f i -ℤ g i) +ℤ pos 1))

-- ---- places

pub same_within : (z : ℤ) → IsNoFurther (2 ^ 42) z → to_z w64 (of_z w64 z) ≡ z
same_within z w = omega (arith, ints, w.low, w.high)

lower_by : (k : ℕ) (a b : ℤ) (t : Bool) → IsNoFurther k a → IsNoFurther k b → IsNoFurther k (if t then a else b)
lower_by k a b true p q = p
lower_by k a b false p q = q

lower_same : (x y a b : ℤ) → x ≡ a → y ≡ b → lower x y ≡ lower a b
lower_same x y a b e f = λ i. lower (e i) (f i)

-- the lesser of two places is no further from 0 than both
pub spanned_within : (a b x y z : ℤ) → z ≡ lower x y → IsNoFurther (2 ^ 42) a → IsNoFurther (2 ^ 42) b → x ≡ a → y ≡ b → IsNoFurther (2 ^ 42) (to_z w64 (of_z w64 z))
spanned_within a b x y z h p q e f =
    let at : z ≡ lower a b = h ∙ lower_same x y a b e f in
    let within_it : IsNoFurther (2 ^ 42) z = subst (IsNoFurther (2 ^ 42)) (sym at) (lower_by (2 ^ 42) a b (int_lt a b) p q) in
    subst (IsNoFurther (2 ^ 42)) (sym (same_within z within_it)) within_it

lower_places : (r : VectorRange) (f l x y : ℤ) → f ≡ x → l ≡ y → lower (place_in r f) (place_in r l) ≡ lower (place_in r x) (place_in r y)
lower_places r f l x y e g = λ i. lower (place_in r (e i)) (place_in r (g i))

pub placed_down : (r : VectorRange) (base : Option ℤ) (z : ℤ) (width : ℕ) (f l s t : ℤ) → base ≡ Some z → s ≡ lower (place_in r f) (place_in r l)
    → f ≡ z -ℤ (pos width -ℤ pos 1) → l ≡ z → t ≡ s → Some t ≡ part_place Downward (Some r) base (Some (pos width))
placed_down r base z width f l s t is h e g k =
    ap (λ (x : ℤ). Some x) (k ∙ h ∙ lower_places r f l (z -ℤ (pos width -ℤ pos 1)) z e g)
    ∙ ap (λ (b : Option ℤ). part_place Downward (Some r) b (Some (pos width))) (sym is)

pub placed_up : (r : VectorRange) (base : Option ℤ) (z : ℤ) (width : ℕ) (f l s t : ℤ) → base ≡ Some z → s ≡ lower (place_in r f) (place_in r l)
    → f ≡ z → l ≡ z +ℤ (pos width -ℤ pos 1) → t ≡ s → Some t ≡ part_place Upward (Some r) base (Some (pos width))
placed_up r base z width f l s t is h e g k =
    ap (λ (x : ℤ). Some x) (k ∙ h ∙ lower_places r f l z (z +ℤ (pos width -ℤ pos 1)) e g)
    ∙ ap (λ (b : Option ℤ). part_place Upward (Some r) b (Some (pos width))) (sym is)

-- ---- parts between two bounds

not_less : (a b : ℤ) → b ≤ℤ a → int_lt a b ≡ false
not_less a b h = grind (arith, ints)

lower_is : (a b : ℤ) → b ≤ℤ a → b ≡ lower a b
lower_is a b h = ap (λ t. if t then a else b) (sym (not_less a b h))

abs_neg : (k : ℕ) → unsigned_abs (neg_ℤ (pos k)) ≡ k
abs_neg zero = refl
abs_neg (suc k) = refl

-- a place, by whether the first bound is the lesser one
abbrev placed : Bool → ℤ → ℤ → ℤ
placed t l i = if t then l -ℤ i else i -ℤ l

width_by : (t : Bool) (l most least : ℤ) (w : ℕ) → (placed t l most -ℤ placed t l least) +ℤ pos 1 ≡ pos w → 1 ≤ w → w ≡ unsigned_abs (most -ℤ least) + 1
width_by false l most least w h some =
    let e : most -ℤ least ≡ pos (w - 1) = omega (arith, ints, h, some) in
    omega (arith, ap unsigned_abs e, some)
width_by true l most least w h some =
    let e : most -ℤ least ≡ neg_ℤ (pos (w - 1)) = omega (arith, ints, h, some) in
    omega (arith, ap unsigned_abs e ∙ abs_neg (w - 1), some)

pub window_between : (r : VectorRange) (most least a b x : ℤ) (w : ℕ) (window : Window) → a ≡ place_in r most → b ≡ place_in r least → x ≡ pos w → x ≡ (a -ℤ b) +ℤ pos 1 → 1 ≤ w
    → window.place ≡ Some b → window.width ≡ w → IsWindow r Constant (Some most) (Some least) window
window_between r most least a b x w window p q h e some place width =
    let wide : (a -ℤ b) +ℤ pos 1 ≡ pos w = sym e ∙ h in
    let above : b ≤ℤ a = omega (arith, ints, wide, some) in
    let turned : (place_in r most -ℤ place_in r least) +ℤ pos 1 ≡ (a -ℤ b) +ℤ pos 1 = λ i. (sym p i -ℤ sym q i) +ℤ pos 1 in
    record {
      place = place ∙ ap (λ (z : ℤ). Some z) (lower_is a b above ∙ lower_same a b (place_in r most) (place_in r least) p q);
      width = width ∙ width_by (int_lt r.most r.least) r.least most least w (turned ∙ wide) some;
    }
