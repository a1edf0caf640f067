use Rattle.preprocess.proofs.Standing.{piece_span}
use Rattle.preprocess.proofs.work.Work.push.Goals as goal

pub returns-then-self-ge-MOST_PIECES-clause-fault : goal.returns-then-self-ge-MOST_PIECES-clause-fault
returns-then-self-ge-MOST_PIECES-clause-fault c = piece_span c.args.self.now.files.items c.args.piece c.requires
