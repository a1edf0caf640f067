-- The two have the same entries where each is the same.
use Rattle.std.proofs.Common.{◌≡◌, length, refl, arith}
use Rattle.std.proofs.lemmas.List.{ext_get_or}
use Rattle.model.specs.declared.entry.Entry.TheVariants.{ActivateInactive}
use Rattle.accesses.proofs.split.are_same.Goals as goal

pub returns : goal.returns
returns c =
    let long : length c.args.one.now ≡ length c.args.other.now = omega (arith, c.if-one-other.false) in (
      (λ yes. ext_get_or ActivateInactive c.args.one.now c.args.other.now long (λ i below. c.loop-place.invariant i ActivateInactive (omega (arith, below, c.loop-place-test.false)))),
      (λ same. refl),
    )
