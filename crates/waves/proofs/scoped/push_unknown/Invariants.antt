-- What is still to be put behind the text are the lines of the registers that are left.
use Rattle.std.proofs.Common.{◌≡◌, ◌++◌, drop}
use Rattle.waves.specs.ScopedDump.{unknown_shown_text}
use Rattle.waves.proofs.scoped.push_unknown.Given as goal

abbrev pub invariant-loop-register : goal.invariant-loop-register
invariant-loop-register l =
    l.text.items ++ unknown_shown_text l.register (drop l.register l.design.names) (drop l.register l.design.widths)
    ≡ l.fn.text.items ++ unknown_shown_text 0 l.design.names l.design.widths
