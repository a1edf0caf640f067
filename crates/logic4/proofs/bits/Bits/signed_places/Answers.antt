use Rattle.std.proofs.Common.{◌≡◌, ◌∷◌, ◌+◌, ◌/◌, length, rules}
use Rattle.std.specs.Prelude.{decimal}
use Rattle.logic4.specs.Display.{signed_field}
use Rattle.logic4.proofs.Signs.{least_text_at}
use Rattle.logic4.proofs.bits.Bits.signed_places.Goals as goal

pub returns : goal.returns
returns c =
    let e : length (45 ∷ decimal (c.mask.result / 2 + 1)) ≡ signed_field (length c.args.self) = least_text_at c.self.invariant c.self.view_is c.mask.result c.mask.ensures in
    rw (← e) (search rules)
