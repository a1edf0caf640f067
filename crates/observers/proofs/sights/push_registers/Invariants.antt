-- The lines of the registers so far are put.
use Rattle.std.proofs.Common.{◌≡◌, ◌++◌, take, flat_map}
use Rattle.looseruns.specs.RegisterObserver.{seen_register_line}
use Rattle.observers.proofs.sights.push_registers.Given as goal

abbrev pub invariant-loop-register : goal.invariant-loop-register
invariant-loop-register l =
    l.bytes.items ≡ l.fn.bytes.items ++ flat_map (λ r. seen_register_line l.machine.values r) (take l.register-index l.registers)
