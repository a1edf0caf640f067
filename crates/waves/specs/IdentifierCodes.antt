-- The identifier codes of registers (IEEE 1364-2005, 18.2): printable characters, from ! to ~.
use Rattle.std.specs.Prelude.{◌≡◌, ℕ, zero, suc, ◌+◌, ◌-◌, ◌/◌, ◌%◌, nat_lt, if◌then◌else◌, List, [], ◌∷◌}

-- of the code of a number at most so many characters, where the 94 shortest codes have one, the next 94 times 94 two, and so on
unfoldable pub code_within : ℕ → ℕ → List ℕ
code_within zero n = []
code_within (suc most) n = (33 + n % 94) ∷ (if nat_lt n 94 then [] else code_within most (n / 94 - 1))

-- the code of the register with a number
abbrev pub code : ℕ → List ℕ
code n = code_within (suc n) n

-- no two registers have one code
abbrev pub CodesDiffer : Type 0
CodesDiffer = (m n : ℕ) → code m ≡ code n → m ≡ n
