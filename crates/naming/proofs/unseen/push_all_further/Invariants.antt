-- The names of the registers so far are put.
use Rattle.std.proofs.Common.{◌≡◌, ◌++◌, take}
use Rattle.naming.specs.UnseenRegisters.{further_names}
use Rattle.naming.proofs.unseen.push_all_further.Given as goal

abbrev pub invariant-loop-register : goal.invariant-loop-register
invariant-loop-register l = l.text.items ≡ l.fn.text.items ++ further_names l.design (take l.register-index l.registers)
