use Rattle.std.proofs.Common.{◌≡◌, ◌++◌, drop}
use Rattle.sizing.specs.Meanings.{byte_digits}
use Rattle.sizing.proofs.typed.bits_behind.Given as goal

abbrev pub invariant-loop-byte : goal.invariant-loop-byte
invariant-loop-byte l = byte_digits (drop l.byte-index l.bytes) ++ l.digits ≡ byte_digits l.bytes ++ l.fn.before
