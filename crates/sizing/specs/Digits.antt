-- The trees of single digits of an object, and of several.
use Rattle.std.specs.Prelude.{ℕ, zero, suc, nat_lt, if◌then◌else◌, List, [], ◌∷◌, Option, Some, None, ℤ, pos, negsuc, ◌+ℤ◌, string_bytes}
use Rattle.logic4.specs.declared.digit.Digit.TheVariants.{X}
use Rattle.logic4.specs.Vector.{unknown}
use Rattle.logic4.specs.Operators.{select_digit}
use Rattle.model.specs.Syntax as core
use Rattle.model.specs.Syntax.{Text}
use Rattle.model.specs.SourceTrees.{source_expressions}
use Rattle.sizing.specs.declared.environment.ObjectValue.{ObjectValue}
use Rattle.sizing.specs.declared.environment.ObjectValue.TheVariants as worth
use Rattle.sizing.specs.declared.environment.Object.{Object}
use Rattle.sizing.specs.Names.{object_width}

-- a digit of an object that has it
abbrev pub inner_digit : ObjectValue → ℕ → core.Expression Text
inner_digit (worth.Constant v) k = core.Literal (select_digit v k ∷ [])
inner_digit (worth.Variable name) k = core.Select (string_bytes name) k

-- the digit at a place, x outside
abbrev pub digit_tree : Object → ℤ → core.Expression Text
digit_tree o (pos k) = if nat_lt k (object_width o) then inner_digit o.value k else core.Literal (X ∷ [])
digit_tree o (negsuc k) = core.Literal (X ∷ [])

-- the digit at a place, x where that isn't known
abbrev pub bit_tree : Object → Option ℤ → core.Expression Text
bit_tree o None = core.Literal (X ∷ [])
bit_tree o (Some place) = digit_tree o place

-- so many digits from a place on, the most significant one first
abbrev pub digit_trees : Object → ℤ → ℕ → List (core.Expression Text)
digit_trees o place zero = []
digit_trees o place (suc width) = digit_tree o (place +ℤ pos width) ∷ digit_trees o place width

-- digits at a place, all x where it isn't known
abbrev pub digits_tree : Object → Option ℤ → ℕ → core.Expression Text
digits_tree o None width = core.Literal (unknown width)
digits_tree o (Some place) width = core.Concat (source_expressions (digit_trees o place width))
