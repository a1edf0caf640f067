use Rattle.std.proofs.Common.{◌≡◌, ◌*◌, drop}
use Rattle.std.specs.Prelude.{string_bytes}
use Rattle.logic4.specs.Display.{octal_text}
use Rattle.logic4.specs.Leading.{led}
use Rattle.logic4.proofs.bits.Bits.octal.Given as goal

abbrev pub invariant-loop-group : goal.invariant-loop-group
invariant-loop-group l = string_bytes l.text ≡ led l.zeros (octal_text (drop (3 * l.group) l.self))
