-- The codes, one behind the other.
use Rattle.lawful.proofs.TailCodes.{tail_put}
use Rattle.lawful.proofs.tail_key.put_tail.Goals as goal

pub returns : goal.returns
returns c =
    tail_put c.put_bytes-2.result c.args.bytes.now.items c.put_number.new.bytes.items c.put_bytes.new.bytes.items c.put_bytes-2.new.bytes.items c.args.tail.now.held.items c.args.tail.now.part.items c.deref.result.now c.deref-2.result.now c.args.tail.now.left c.in_ok-put_number.ensures
    c.in_ok-put_bytes.ensures c.deref.ensures.value c.deref-2.ensures.value c.put_bytes-2.ensures
