use Rattle.std.proofs.Common.{◌≡◌, ◌*◌, ◌/◌, ◌<◌, ◌≤◌, ap, sym, subst, arith}
use Rattle.regions.specs.Slots.{slot_size}
use Rattle.regions.proofs.SlotLaws.{slots_enough, slot_below}
use Rattle.regions.proofs.slots.slot_of.Goals as goal

pub returns-then-size-eq1-clause-value : goal.returns-then-size-eq1-clause-value
returns-then-size-eq1-clause-value c =
    let one : slot_size c.args.processes ≡ 1 = omega (arith, c.slot_size-size.ensures.value, c.if-size-eq1.true) in rw one (omega arith)

pub returns-then-size-eq1-clause-within : goal.returns-then-size-eq1-clause-within
returns-then-size-eq1-clause-within c =
    let one : slot_size c.args.processes ≡ 1 = omega (arith, c.slot_size-size.ensures.value, c.if-size-eq1.true) in
    let few : c.args.processes ≤ 256 * slot_size c.args.processes = slots_enough c.args.processes c.requires.few in
    omega (arith, one, few, c.requires.process)

pub returns-clause-value : goal.returns-clause-value
returns-clause-value c = ap (λ k. c.args.process / k) c.slot_size-size.ensures.value

pub returns-clause-within : goal.returns-clause-within
returns-clause-within c =
    subst (λ k. c.args.process / k < 256) (sym c.slot_size-size.ensures.value) (slot_below c.args.processes c.args.process c.requires.few c.requires.process)
