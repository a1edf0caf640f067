use Rattle.std.proofs.Common.{◌++◌, get_or, refl}
use Rattle.flattext.specs.Phrases.{escaped_byte, escaped_bytes}
use Rattle.flattext.proofs.Each.{each_byte_more, each_put}
use Rattle.flattext.proofs.phrases.push_each_escaped.Goals as goal

pub loop-byte-preserved : goal.loop-byte-preserved
loop-byte-preserved c =
    let all = c.args.bytes.now in
    each_byte_more escaped_bytes (escaped_byte (get_or all c.loop-byte.byte-index 0)) c.push_escaped.new.text.items c.loop-byte.text.items (c.args.text.now.items ++ escaped_bytes all) all c.loop-byte.byte-index c.loop-byte-test.true refl
    c.loop-byte.invariant c.in_ok-push_escaped.ensures

pub returns : goal.returns
returns c = each_put escaped_bytes c.loop-byte.text.items (c.args.text.now.items ++ escaped_bytes c.args.bytes.now) c.args.bytes.now c.loop-byte.byte-index c.loop-byte-test.false refl c.loop-byte.invariant
