-- One of the number more, and its end.
use Rattle.std.proofs.Common.{◌++◌}
use Rattle.lawful.specs.ArrangedNodes.{number_code}
use Rattle.lawful.proofs.TailCodes.{number_done, number_more}
use Rattle.lawful.proofs.tail_key.put_number.Goals as goal

pub loop-rest-preserved : goal.loop-rest-preserved
loop-rest-preserved c =
    number_more c.loop-rest.bytes.items c.push.new.self.items (c.args.bytes.now.items ++ number_code c.args.number) c.loop-rest.rest c.loop-rest-test.true c.in_ok-push.ensures.items c.loop-rest.invariant

pub returns : goal.returns
returns c =
    number_done c.loop-rest.bytes.items c.push-2.new.self.items (c.args.bytes.now.items ++ number_code c.args.number) c.loop-rest.rest c.loop-rest-test.false c.in_ok-push-2.ensures.items c.loop-rest.invariant
