-- Ranges, and the places of indices and parts in them (IEEE 1364-2005, 4.3.1, 5.2.1).
use Rattle.std.specs.Prelude.{◌≡◌, ℕ, ◌+◌, ◌^◌, nat_lt, nat_le, Bool, ◌&&◌, if◌then◌else◌, Option, Some, None, ℤ, pos, negsuc, neg_ℤ, ◌+ℤ◌, ◌-ℤ◌, ◌≤ℤ◌, int_lt, int_le, unsigned_abs}
use Rattle.logic4.specs.Vector.{greatest_width}
use Rattle.syntax_tree.specs.declared.expressions.PartForm.{PartForm}
use Rattle.syntax_tree.specs.declared.expressions.PartForm.TheVariants.{Constant, Upward, Downward}
use Rattle.ranges.specs.declared.range.VectorRange.{VectorRange}
use Rattle.ranges.specs.declared.window.Window.{Window}

-- how many numbers a range has, with both its bounds (4.3.1)
abbrev pub range_width : VectorRange → ℕ
range_width r = unsigned_abs (r.most -ℤ r.least) + 1

-- how far from 0 the bounds of a range may be
abbrev pub farthest : ℕ
farthest = 2 ^ 40

-- a number no further from 0 than another one
pub record IsNoFurther (k : ℕ) (z : ℤ) : Type 0 where
  pub low : neg_ℤ (pos k) ≤ℤ z
  pub high : z ≤ℤ pos k

-- whether a range may have a number within it
abbrev pub is_near : ℤ → Bool
is_near z = int_le (neg_ℤ (pos farthest)) z && int_le z (pos farthest)

-- a number that a range may have within it
abbrev pub near : Option ℤ → Option ℤ
near None = None
near (Some z) = if is_near z then Some z else None

-- how far the digit of an index stands above the least significant one, whose index is the second bound; below it where this is negative
abbrev pub place_in : VectorRange → ℤ → ℤ
place_in r i = if int_lt r.most r.least then r.least -ℤ i else i -ℤ r.least

-- the place of a bit, by the range of its vector and its index
abbrev pub bit_place : Option VectorRange → Option ℤ → Option ℤ
bit_place (Some r) (Some i) = Some (place_in r i)
bit_place _ _ = None

-- the first and the last index of a part: its two bounds, or so many numbers from the base up, or from the base down
abbrev pub part_ends : PartForm → ℤ → ℤ → ℤ × ℤ
part_ends Constant most least = (most, least)
part_ends Upward base width = (base, base +ℤ (width -ℤ pos 1))
part_ends Downward base width = (base -ℤ (width -ℤ pos 1), base)

-- the lesser of two places
abbrev pub lower : ℤ → ℤ → ℤ
lower a b = if int_lt a b then a else b

-- the place of the least significant digit of a part
abbrev pub part_place : PartForm → Option VectorRange → Option ℤ → Option ℤ → Option ℤ
part_place form (Some r) (Some first) (Some second) = Some (lower (place_in r (part_ends form first second).0) (place_in r (part_ends form first second).1))
part_place form _ _ _ = None

-- a whole number, 0 where it is negative
abbrev pub natural : ℤ → ℕ
natural (pos k) = k
natural (negsuc k) = 0

-- how many digits a part has: its bounds, or the width that is told
abbrev pub part_width : PartForm → Option ℤ → Option ℤ → ℕ
part_width Constant (Some most) (Some least) = unsigned_abs (most -ℤ least) + 1
part_width Constant _ _ = 0
part_width _ first None = 0
part_width _ first (Some width) = natural width

-- a width that a vector may have, from 1 to the greatest
abbrev pub vector_size : ℤ → Option ℕ
vector_size z = if nat_lt 0 (natural z) && nat_le (natural z) greatest_width then Some (natural z) else None

-- the size of a part by its bounds, if these are known, stand in the order of the range, and a vector may have as many digits
abbrev pub bounded_size : VectorRange → Option ℤ → Option ℤ → Option ℕ
bounded_size r (Some most) (Some least) = vector_size ((place_in r most -ℤ place_in r least) +ℤ pos 1)
bounded_size r _ _ = None

-- the size of a part by its width, if that is known, and a vector may have as many digits
abbrev pub told_size : Option ℤ → Option ℕ
told_size None = None
told_size (Some width) = vector_size width

-- the size that a part has, if it has one
abbrev pub part_size : VectorRange → PartForm → Option ℤ → Option ℤ → Option ℕ
part_size r Constant first second = bounded_size r first second
part_size r Upward first second = told_size second
part_size r Downward first second = told_size second

-- the bounds of a range are near 0
pub record IsNearRange (r : VectorRange) : Type 0 where
  pub most : IsNoFurther farthest r.most
  pub least : IsNoFurther farthest r.least

-- where a part stands, and how many digits it has
pub record IsWindow (r : VectorRange) (form : PartForm) (first second : Option ℤ) (w : Window) : Type 0 where
  pub place : w.place ≡ part_place form (Some r) first second
  pub width : w.width ≡ part_width form first second

-- a place that isn't too far from 0
abbrev pub IsNearPlace : Option ℤ → Type 0
IsNearPlace None = Unit {0}
IsNearPlace (Some place) = IsNoFurther (2 ^ 42) place
