-- The first place where two texts differ, or none.
use Rattle.std.proofs.Common.{refl, arith}
use Rattle.runs.proofs.Parting.{parted_at, none_parted}
use Rattle.runs.proofs.compared.have_parted.Goals as goal

pub returns-then-one-place : goal.returns-then-one-place
returns-then-one-place c = (
  (λ yes. parted_at c.args.one.now c.args.other.now c.loop-place.place (omega (arith, c.loop-place-test.true, c.min-shorter.ensures))
      (omega (arith, c.loop-place-test.true, c.min-shorter.ensures)) c.loop-place.invariant c.if-one-place.true),
  (λ parted. refl),
)

pub returns : goal.returns
returns c = (
  (λ no. cc),
  (λ parted. absurd (none_parted c.args.one.now c.args.other.now c.loop-place.place (λ m lt lt'. omega (arith, lt, lt', c.loop-place-test.false, c.min-shorter.ensures)) c.loop-place.invariant parted)),
)
