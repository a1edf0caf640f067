-- Each number is told by its four bytes.
use Rattle.std.proofs.Common.{◌≡◌, ap, ◌∙◌, length, List, ℕ}
use Rattle.std.proofs.Math.Facts.{Fits-lt-pow}
use Rattle.std.proofs.lemmas.List.{take_all}
use Rattle.std.specs.Prelude.{flat_map}
use Rattle.std.specs.Int.{w32, to_le_bytes}
use Rattle.sharing.specs.Parts.{numbers_in}
use Rattle.sharing.proofs.Telling.{numbers_in-code, length-code}
use Rattle.sharing.proofs.parts.encode.Goals as goal

-- all numbers have their code
all_coded : (c : goal.After-loop-number) → c.loop-number.code.items ≡ flat_map (to_le_bytes w32) c.args.numbers.now
all_coded c = c.loop-number.invariant ∙ ap (λ (l : List ℕ). flat_map (to_le_bytes w32) l) (take_all c.loop-number.number-index c.args.numbers.now c.loop-number-test.false)

pub returns-clause-told : goal.returns-clause-told
returns-clause-told c = ap numbers_in (all_coded c) ∙ numbers_in-code c.args.numbers.now (λ i. Fits-lt-pow (c.type_inv.numbers i))

pub returns-clause-length : goal.returns-clause-length
returns-clause-length c = ap length (all_coded c) ∙ length-code c.args.numbers.now
