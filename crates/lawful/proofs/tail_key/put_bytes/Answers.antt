-- One byte more, and their end.
use Rattle.std.proofs.Common.{◌++◌, ap, length, arith}
use Rattle.lawful.specs.ArrangedNodes.{bytes_code}
use Rattle.lawful.proofs.TailCodes.{bytes_done, bytes_more, if_none}
use Rattle.lawful.proofs.tail_key.put_bytes.Goals as goal

pub loop-first-preserved : goal.loop-first-preserved
loop-first-preserved c =
    bytes_more c.loop-first.bytes.items c.extend_from_slice.new.self.items (c.args.bytes.now.items ++ bytes_code c.args.text.now) c.in-Some.more.now c.in-Some.first.now c.loop-first.rest.now c.in-Some.ensures.cases.0 c.in_ok-extend_from_slice.ensures.items c.loop-first.invariant

pub returns : goal.returns
returns c =
    bytes_done c.loop-first.bytes.items c.push.new.self.items (c.args.bytes.now.items ++ bytes_code c.args.text.now) c.loop-first.rest.now (if_none c.split_first.result _ _ c.split_first.ensures.cases c.in_default.is) c.in_ok-push.ensures.items c.loop-first.invariant
