use Rattle.std.proofs.Common.{arith}
use Rattle.std.proofs.lemmas.Bool.Decides.{nat_tests}
use Rattle.regions.specs.Slots.{slot_size}
use Rattle.regions.proofs.slots.slot_size.Goals as goal

pub returns-then-processes-le256-clause-value : goal.returns-then-processes-le256-clause-value
unfolding slot_size
returns-then-processes-le256-clause-value c = grind (arith, nat_tests)

pub returns-then-processes-le512-clause-value : goal.returns-then-processes-le512-clause-value
unfolding slot_size
returns-then-processes-le512-clause-value c = grind (arith, nat_tests)

pub returns-then-processes-le1024-clause-value : goal.returns-then-processes-le1024-clause-value
unfolding slot_size
returns-then-processes-le1024-clause-value c = grind (arith, nat_tests)

pub returns-then-processes-le2048-clause-value : goal.returns-then-processes-le2048-clause-value
unfolding slot_size
returns-then-processes-le2048-clause-value c = grind (arith, nat_tests)

pub returns-then-processes-le4096-clause-value : goal.returns-then-processes-le4096-clause-value
unfolding slot_size
returns-then-processes-le4096-clause-value c = grind (arith, nat_tests)

pub returns-then-processes-le8192-clause-value : goal.returns-then-processes-le8192-clause-value
unfolding slot_size
returns-then-processes-le8192-clause-value c = grind (arith, nat_tests)

pub returns-clause-value : goal.returns-clause-value
unfolding slot_size
returns-clause-value c = grind (arith, nat_tests)
