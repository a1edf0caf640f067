-- The code of what isn't in order for good, and the class key behind it.
use Rattle.std.proofs.Common.{[], refl}
use Rattle.loose.specs.Classes.{class_in}
use Rattle.lawful.specs.ArrangedNodes.{tail_at}
use Rattle.lawful.proofs.TailCodes.{tail_key_is}
use Rattle.lawful.proofs.tail_key.fill_tail_key.Goals as goal

pub returns : goal.returns
returns c =
    let node = c.args.node.now in
    let rest = c.fill_key.new.bytes.items in
    tail_key_is (class_in c.args.classes.now) node c.deref.result.now c.extend_from_slice.result c.clear.new.self.items c.put_tail.new.bytes.items c.extend_from_slice.new.self.items rest c.deref-2.result.now (tail_at node) c.deref.ensures c.in_ok-fill_key.ensures refl c.clear.ensures.items
    c.in_ok-put_tail.ensures c.deref-2.ensures.value c.extend_from_slice.ensures.items
