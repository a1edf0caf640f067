-- The bytes so far were read.
use Rattle.std.proofs.Common.{◌≡◌, [], take}
use Rattle.wavetexts.specs.Reading.{read_on, text_with}
use Rattle.wavetexts.proofs.reading.TextTail.read.Given as goal

abbrev pub invariant-loop-byte : goal.invariant-loop-byte
invariant-loop-byte l = text_with l.done.items l.self ≡ read_on l.fn.registers (text_with [] l.fn.self) (take l.byte-index l.bytes)
