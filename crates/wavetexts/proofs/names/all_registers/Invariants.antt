-- The registers so far, and those that are left, are all.
use Rattle.std.proofs.Common.{◌≡◌, ◌-◌, ◌++◌, length}
use Rattle.wavetexts.specs.Names.{registers_from}
use Rattle.wavetexts.proofs.names.all_registers.Given as goal

abbrev pub invariant-loop-register : goal.invariant-loop-register
invariant-loop-register l =
    l.registers.items ++ registers_from l.register (length l.design.widths - l.register) ≡ registers_from 0 (length l.design.widths)
