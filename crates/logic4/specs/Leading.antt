-- Zeros at the front of a text that is made from its front on: they are shown or dropped (IEEE 1364-2005, 17.1.1.3).
use Rattle.std.specs.Prelude.{ℕ, Bool, true, false, if◌then◌else◌, List, [], ◌∷◌, ◌++◌, codes}
use Rattle.std.specs.Str.{bytes_eq}
use Rattle.logic4.specs.declared.conversion.LeadingZeros.{LeadingZeros}
use Rattle.logic4.specs.declared.conversion.LeadingZeros.TheVariants.{Shown, Dropped}
use Rattle.logic4.specs.Display.{without_zeros, character_text}

-- a text with its zeros at the front, or without them
abbrev pub led : LeadingZeros → List ℕ → List ℕ
led Shown text = text
led Dropped text = without_zeros text

-- a letter behind a text, or in the place of one that is one zero
abbrev pub behind_zero : List ℕ → ℕ → List ℕ
behind_zero text letter = if bytes_eq text (48 ∷ []) then letter ∷ [] else text ++ letter ∷ []

-- a letter behind a text whose zeros at the front are shown or dropped
abbrev pub put_behind : LeadingZeros → List ℕ → ℕ → List ℕ
put_behind Shown text letter = text ++ letter ∷ []
put_behind Dropped text letter = behind_zero text letter

-- what stands in the place of a zero byte at the front
abbrev pub blank_of : LeadingZeros → List ℕ
blank_of Shown = codes " "
blank_of Dropped = []

-- the text of a byte that stands behind others: of one at the front, if these are zero bytes and it is one
abbrev pub byte_text : LeadingZeros → Bool → ℕ → List ℕ
byte_text zeros true byte = character_text byte
byte_text zeros false byte = blank_of zeros
