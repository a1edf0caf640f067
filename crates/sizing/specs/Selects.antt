-- Digits of objects (IEEE 1364-2005, 5.2.1).
use Rattle.std.specs.Prelude.{ℕ, zero, suc, nat_lt, if◌then◌else◌, [], ◌∷◌, ◌++◌, Option, Some, None, ℤ, pos, negsuc, ◌+ℤ◌}
use Rattle.logic4.specs.declared.digit.Digit.{Digit}
use Rattle.logic4.specs.declared.digit.Digit.TheVariants.{X}
use Rattle.logic4.specs.Vector.{Vector, unknown}
use Rattle.logic4.specs.Operators.{select_digit}
use Rattle.syntax_tree.specs.declared.expressions.PartForm.{PartForm}
use Rattle.ranges.specs.Ranges.{bit_place, part_place, part_width}
use Rattle.shaped_trees.specs.Trees.{Values}
use Rattle.sizing.specs.declared.environment.Object.{Object}
use Rattle.sizing.specs.Names.{object_width, object_value}

-- the digit at a place of a vector of a width; one outside is x
abbrev pub digit_at : ℕ → Vector → ℤ → Digit
digit_at own v (pos k) = if nat_lt k own then select_digit v k else X
digit_at own v (negsuc k) = X

-- the digit at a place; it is x where that isn't known
abbrev pub digit_where : ℕ → Vector → Option ℤ → Digit
digit_where own v None = X
digit_where own v (Some place) = digit_at own v place

-- so many digits from a place on
abbrev pub digits_from : ℕ → Vector → ℤ → ℕ → Vector
digits_from own v place zero = []
digits_from own v place (suc width) = digits_from own v place width ++ (digit_at own v (place +ℤ pos width) ∷ [])

-- digits at a place; all are x where it isn't known
abbrev pub digits_at : ℕ → Vector → Option ℤ → ℕ → Vector
digits_at own v None width = unknown width
digits_at own v (Some place) width = digits_from own v place width

-- a bit of an object
abbrev pub bit_value : Values → Object → Option ℤ → Vector
bit_value values o index = digit_where (object_width o) (object_value values o) (bit_place o.range index) ∷ []

-- a part of an object
abbrev pub part_value : Values → Object → PartForm → Option ℤ → Option ℤ → Vector
part_value values o form first second = digits_at (object_width o) (object_value values o) (part_place form o.range first second) (part_width form first second)
