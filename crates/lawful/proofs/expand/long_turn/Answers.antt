-- What is told of a turn that is too long.
use Rattle.std.proofs.Common.{refl}
use Rattle.lawful.proofs.expand.long_turn.Goals as goal

pub returns : goal.returns
returns c = record { process = c.args.process; is_turn = refl; here = c.new-2.ensures.items; silent = c.new.ensures.items; end_is = refl }
