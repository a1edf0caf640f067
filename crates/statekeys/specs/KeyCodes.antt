-- Codes of values as bytes.
use Rattle.std.specs.Prelude.{◌≡◌, ℕ, zero, suc, ◌+◌, ◌/◌, ◌%◌, nat_lt, if◌then◌else◌, Bool, true, false, List, [], ◌∷◌, ◌++◌, length, Option, Some, None, flat_map}
use Rattle.logic4.specs.Vector.{Vector}
use Rattle.logic4.specs.VectorWords.{first_word, second_word}

-- A code is self-delimiting if its bytes tell the value, whatever follows them, and where they end.
abbrev pub IsSelfDelimiting : {A : Type 0} → (A → List ℕ) → Type 0
IsSelfDelimiting {A} code = (x y : A) (r s : List ℕ) → code x ++ r ≡ code y ++ s → (x ≡ y) × (r ≡ s)

-- the digits of a number to the base 128, at most one more than a count of them, the lowest first: 128 more in each but the last
abbrev pub digits_code : ℕ → ℕ → List ℕ
digits_code zero n = n ∷ []
digits_code (suc more) n = if nat_lt n 128 then n ∷ [] else (128 + n % 128) ∷ digits_code more (n / 128)

-- the code of a number: its digits to the base 128, the lowest first, and 128 more in each but the last
unfoldable pub nat_code : ℕ → List ℕ
nat_code n = digits_code n n

-- the code of a truth
abbrev pub bool_code : Bool → List ℕ
bool_code false = nat_code 0
bool_code true = nat_code 1

-- the code of a pair: those of both
abbrev pub pair_code : {A B : Type 0} → (A → List ℕ) → (B → List ℕ) → A × B → List ℕ
pair_code first second x = first x.0 ++ second x.1

-- the code of an option: whether there is a value, and its code
abbrev pub option_code : {A : Type 0} → (A → List ℕ) → Option A → List ℕ
option_code code None = nat_code 0
option_code code (Some x) = nat_code 1 ++ code x

-- the code of a list: its length, and the codes of its elements
abbrev pub list_code : {A : Type 0} → (A → List ℕ) → List A → List ℕ
list_code code xs = nat_code (length xs) ++ flat_map code xs

-- the code of a vector: its width, and its two words
abbrev pub vector_code : Vector → List ℕ
vector_code v = nat_code (length v) ++ nat_code (first_word v) ++ nat_code (second_word v)
