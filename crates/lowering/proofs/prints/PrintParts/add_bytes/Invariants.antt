-- The bytes so far are shown.
use Rattle.std.proofs.Common.{◌≡◌, take}
use Rattle.lowering.specs.Prints.{shown_behind, bytes_shown}
use Rattle.lowering.specs.Shown.{shown_in}
use Rattle.lowering.proofs.prints.PrintParts.add_bytes.Given as goal

abbrev pub invariant-loop-byte : goal.invariant-loop-byte
invariant-loop-byte l = shown_in l.self ≡ shown_behind (shown_in l.initial.self) (bytes_shown (take l.byte-index l.bytes))
