use Rattle.std.proofs.Common.{◌≡◌, drop}
use Rattle.std.specs.Prelude.{string_bytes}
use Rattle.logic4.specs.Display.{binary_text}
use Rattle.logic4.specs.Leading.{led}
use Rattle.logic4.proofs.bits.Bits.binary.Given as goal

abbrev pub invariant-loop-index : goal.invariant-loop-index
invariant-loop-index l = string_bytes l.text ≡ led l.zeros (binary_text (drop l.index l.self))
