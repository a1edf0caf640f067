use Rattle.std.proofs.Common.{◌++◌, get_or, refl}
use Rattle.flattext.specs.Names.{graphic_text, graphic_texts}
use Rattle.flattext.proofs.Each.{each_byte_more, each_put}
use Rattle.flattext.proofs.names.push_name_bytes.Goals as goal

pub loop-byte-preserved : goal.loop-byte-preserved
loop-byte-preserved c =
    let all = c.args.bytes.now in
    each_byte_more graphic_texts (graphic_text (get_or all c.loop-byte.byte-index 0)) c.push_name_byte.new.text.items c.loop-byte.text.items (c.args.text.now.items ++ graphic_texts all) all c.loop-byte.byte-index c.loop-byte-test.true refl
    c.loop-byte.invariant c.in_ok-push_name_byte.ensures

pub returns : goal.returns
returns c = each_put graphic_texts c.loop-byte.text.items (c.args.text.now.items ++ graphic_texts c.args.bytes.now) c.args.bytes.now c.loop-byte.byte-index c.loop-byte-test.false refl c.loop-byte.invariant
