-- A use that stands has a place that stands.
use Rattle.preprocess.proofs.Standing.{piece_span}
use Rattle.preprocess.proofs.preprocessor.Preprocessor.read_use.Goals as goal

pub returns-in_default-clause-fault : goal.returns-in_default-clause-fault
returns-in_default-clause-fault c = piece_span c.args.self.now.work.files.items c.args.piece c.requires

pub check_nesting-requires : goal.check_nesting-requires
check_nesting-requires c = piece_span c.args.self.now.work.files.items c.args.piece c.requires
