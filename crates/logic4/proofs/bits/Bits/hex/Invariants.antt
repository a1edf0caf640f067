use Rattle.std.proofs.Common.{◌≡◌, ◌*◌, drop}
use Rattle.std.specs.Prelude.{string_bytes}
use Rattle.logic4.specs.Display.{hex_text}
use Rattle.logic4.specs.Leading.{led}
use Rattle.logic4.proofs.bits.Bits.hex.Given as goal

abbrev pub invariant-loop-group : goal.invariant-loop-group
invariant-loop-group l = string_bytes l.text ≡ led l.zeros (hex_text (drop (4 * l.group) l.self))
