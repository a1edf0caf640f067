use Rattle.preprocess.proofs.Standing.{popped_span}
use Rattle.preprocess.proofs.work.Work.pop.Goals as goal

pub returns-clause-span : goal.returns-clause-span
returns-clause-span c = popped_span c.args.self.now.files.items c.args.self.now.pieces.items _ c.pop.result c.pop.ensures.items c.args.self.now.pieces_stand
