-- One byte more was read.
use Rattle.std.proofs.Common.{◌∙◌, ◌+◌, [], ap, get_or, take, arith}
use Rattle.std.proofs.lemmas.List.{take_all, take_more}
use Rattle.wavetexts.specs.Reading.{read_on, text_with}
use Rattle.wavetexts.proofs.ReadTexts.{reads_one}
use Rattle.wavetexts.proofs.reading.TextTail.read.Goals as goal

pub loop-byte-preserved : goal.loop-byte-preserved
loop-byte-preserved c =
    let bytes = c.args.bytes.now in
    let at = c.loop-byte.byte-index in
    let t = text_with [] c.args.self.now in
    reads_one c.args.registers t (text_with c.loop-byte.done.items c.loop-byte.self) (text_with c.read_byte.new.done.items c.read_byte.new.self) (take at bytes) (get_or bytes at 0) (take (at + 1) bytes) (take_more bytes at 0 (omega arith)) c.loop-byte.invariant c.in_ok-read_byte.ensures

pub returns : goal.returns
returns c =
    c.loop-byte.invariant ∙ ap (read_on c.args.registers (text_with [] c.args.self.now)) (take_all c.loop-byte.byte-index c.args.bytes.now (omega arith))
