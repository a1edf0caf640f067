-- What is still to be put behind the text are the lines of the registers that are left.
use Rattle.std.proofs.Common.{◌≡◌, ◌++◌, drop}
use Rattle.waves.specs.Dump.{unknown_values_text}
use Rattle.waves.proofs.dump.push_unknown.Given as goal

abbrev pub invariant-loop-register : goal.invariant-loop-register
invariant-loop-register l =
    l.text.items ++ unknown_values_text l.register (drop l.register l.design.widths) ≡ l.fn.text.items ++ unknown_values_text 0 l.design.widths
