-- What is still to be kept are the registers that are left, and each has a value in both.
use Rattle.std.proofs.Common.{◌≡◌, ◌++◌, drop, length}
use Rattle.races.specs.Unseen.{other_values}
use Rattle.races.proofs.unseen.other_registers.Given as goal

abbrev pub invariant-loop-register : goal.invariant-loop-register
invariant-loop-register l =
    (length l.firsts ≡ l.registers) × (length l.seconds ≡ l.registers)
    × (l.found.items ++ other_values l.register (drop l.register l.firsts) (drop l.register l.seconds) ≡ other_values 0 l.firsts l.seconds)
