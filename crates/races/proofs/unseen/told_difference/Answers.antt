-- The difference, with the two entries.
use Rattle.races.proofs.Alike.{differ_by}
use Rattle.races.proofs.unseen.told_difference.Goals as goal

pub returns : goal.returns
returns c =
    differ_by c.args.task.design.now c.args.task.original.now c.args.exchanged.now c.args.found c.with_pair.result c.in_ok-pair.pair c.with_pair.ensures.time c.with_pair.ensures.registers
    c.with_pair.ensures.pair c.in_ok-pair.ensures c.requires
