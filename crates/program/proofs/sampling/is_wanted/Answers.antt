-- It is shown with all, or by its end.
use Rattle.program.proofs.Sampled.{wanted_all, wanted_whole}
use Rattle.program.proofs.sampling.is_wanted.Goals as goal

pub returns-then-all : goal.returns-then-all
returns-then-all c = wanted_all c.args.all c.args.run.now c.if-all.true

pub returns : goal.returns
returns c = wanted_whole c.args.all c.is_whole.result c.args.run.now c.if-all.false c.is_whole.ensures
