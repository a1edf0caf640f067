-- Registers that have another value at the end than at the begin.
use Rattle.std.proofs.Common.{◌≡◌, ◌≢◌, ℕ, Bool, true, false, List, [], Some, sym, ap, ◌∙◌}
use Rattle.std.specs.Prelude.{not, slice_get}
use Rattle.logic4.specs.Vector.{Vector}
use Rattle.logic4.specs.Operators.{same_vector}
use Rattle.logic4.specs.Sameness.{same_vector-self}
use Rattle.model.specs.Expressions.{value_of}
use Rattle.settling.proofs.Places.{element_at}

both_ways : (b c : Bool) → b ≡ c → not b ≡ true → c ≡ true → ⊥
both_ways true c is h there = cc
both_ways false c is h there = cc

-- a value that is there isn't one that it isn't the same as
pub other_value : (store : List Vector) (r : ℕ) (old value : Vector) (b : Bool) → slice_get store r ≡ Some old → b ≡ same_vector old value → not b ≡ true → value_of store r ≢ value
other_value store r old value b at is differs same =
    let there : old ≡ value = sym (element_at store r old [] at) ∙ same in
    both_ways b (same_vector old value) is differs (ap (same_vector old) (sym there) ∙ same_vector-self old)

-- values that are there differ where the first isn't the second
pub differ_so : (begin end : List Vector) (r : ℕ) (value : Vector) → slice_get end r ≡ Some value → value_of begin r ≢ value → value_of begin r ≢ value_of end r
differ_so begin end r value at differs same = differs (same ∙ element_at end r value [] at)

pub same_so : (begin end : List Vector) (r : ℕ) (value : Vector) → slice_get end r ≡ Some value → value_of begin r ≡ value → value_of begin r ≡ value_of end r
same_so begin end r value at same = same ∙ sym (element_at end r value [] at)
