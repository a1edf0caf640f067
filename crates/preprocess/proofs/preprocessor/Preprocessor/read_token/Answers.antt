use Rattle.preprocess.proofs.Standing.{piece_token}
use Rattle.preprocess.proofs.preprocessor.Preprocessor.read_token.Goals as goal

pub push_token-requires : goal.push_token-requires
push_token-requires c = piece_token c.args.self.now.work.files.items c.args.piece c.kind_behind_base.result c.use_place_of.result c.requires c.use_place_of.ensures
