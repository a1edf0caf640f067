-- The words of a cell, of 64 bits each: the two halves of the value's first word, the low one first, those of its second
-- word, and the version.
use Rattle.std.specs.Prelude.{ℕ, List, slice_index}
use Rattle.logic4.specs.Vector.{Vector}
use Rattle.logic4.specs.VectorWords.{AreWords, of_words}
use Rattle.design.specs.Halves.{joined_halves}

-- the value's first word
abbrev pub first_in : List ℕ → ℕ
first_in words = joined_halves (slice_index words 0) (slice_index words 1)

-- the value's second word
abbrev pub second_in : List ℕ → ℕ
second_in words = joined_halves (slice_index words 2) (slice_index words 3)

-- the version in the words
abbrev pub version_in : List ℕ → ℕ
version_in words = slice_index words 4

-- the value of a width in the words
abbrev pub value_in : ℕ → List ℕ → Vector
value_in width words = of_words width (first_in words) (second_in words)

-- the words hold a value of this width
abbrev pub HoldValue : ℕ → List ℕ → Type 0
HoldValue width words = AreWords width (first_in words) (second_in words)
