use Rattle.std.proofs.Common.{◌≡◌, ◌-◌, ◌^◌, ◌∙◌, ap, arith}
use Rattle.std.proofs.lemmas.Nat.Bits.{ones_shr}
use Rattle.logic4.specs.Vector.{greatest_width}
use Rattle.shaped_trees.proofs.constants.greatest_of.Goals as goal

pub returns : goal.returns
returns c = let back : greatest_width - (greatest_width - c.args.width) ≡ c.args.width = omega arith in ones_shr greatest_width (greatest_width - c.args.width) (omega arith) ∙ ap (λ k. 2 ^ k - 1) back
