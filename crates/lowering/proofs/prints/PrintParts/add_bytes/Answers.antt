use Rattle.std.proofs.Common.{get_or, refl, arith}
use Rattle.lowering.specs.Shown.{shown_in}
use Rattle.lowering.proofs.Formats.{bytes_start, bytes_more, bytes_end}
use Rattle.lowering.proofs.prints.PrintParts.add_bytes.Goals as goal

pub loop-byte-init : goal.loop-byte-init
loop-byte-init c = bytes_start (shown_in c.args.self.now)

pub loop-byte-preserved : goal.loop-byte-preserved
loop-byte-preserved c =
    let bytes = c.args.bytes.now in
    let i = c.loop-byte.byte-index in
    bytes_more (shown_in c.args.self.now) (shown_in c.loop-byte.self) (shown_in c.add_byte.new.self) bytes i (get_or bytes i 0) c.loop-byte-test.true refl c.loop-byte.invariant c.in_ok-add_byte.ensures.1

pub returns : goal.returns
returns c = bytes_end (shown_in c.args.self.now) (shown_in c.loop-byte.self) c.args.bytes.now c.loop-byte.byte-index (omega arith) c.loop-byte.invariant
