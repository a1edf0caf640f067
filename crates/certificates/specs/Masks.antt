-- Lists of items that have numbers, and the masks of these numbers.
use Rattle.std.specs.Prelude.{◌≡◌, ℕ, ◌%◌, ◌==◌, Bool, true, List, map}
use Rattle.std.specs.List.{list_any}
use Rattle.std.specs.Int.{bit_at}
use Rattle.model.specs.Design.{Trigger}
use Rattle.model.specs.Turns.{contains}
use Rattle.certificates.specs.declared.mask.Mask.{Mask}

-- a mask has the bit of each of these numbers, which is that of its remainder by 64
abbrev pub IsMaskOf : (ℕ → Bool) → Mask → Type 0
IsMaskOf has mask = (n : ℕ) → has n ≡ true → bit_at mask.bits (n % 64) ≡ 1

-- whether one of these items has this number
abbrev pub has_number : {T : Type 0} → (T → ℕ) → List T → ℕ → Bool
has_number number_of items n = list_any (λ x. number_of x == n) items

-- the registers of events
abbrev pub registers_of : List Trigger → List ℕ
registers_of triggers = map (λ t. t.1) triggers

-- whether a number is among both of these
abbrev pub meet : List ℕ → List ℕ → Bool
meet xs ys = list_any (λ n. contains ys n) xs
