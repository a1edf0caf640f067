-- What is still to be put behind the text are the lines of the registers that are left.
use Rattle.std.proofs.Common.{◌≡◌, ◌++◌, drop, map, option_map}
use Rattle.waves.specs.ScopedDump.{plain_scope, registers_within}
use Rattle.waves.proofs.scoped.push_registers_within.Given as goal

abbrev pub invariant-loop-register : goal.invariant-loop-register
invariant-loop-register l =
    l.text.items ++ registers_within (map plain_scope l.all.scopes.now) (option_map (λ path. path.now) l.around) l.register (drop l.register l.all.design.now.names) (drop l.register l.all.design.now.widths)
    ≡ l.fn.text.items ++ registers_within (map plain_scope l.all.scopes.now) (option_map (λ path. path.now) l.around) 0 l.all.design.now.names l.all.design.now.widths
