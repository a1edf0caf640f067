use Rattle.preprocess.proofs.Standing.{file_piece}
use Rattle.preprocess.proofs.preprocessor.Preprocessor.piece_of.Goals as goal

pub returns : goal.returns
returns c = file_piece c.args.self.now.work.files.items c.args.lexeme _ c.requires
