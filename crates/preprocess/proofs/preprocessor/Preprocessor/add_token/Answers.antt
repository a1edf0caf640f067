use Rattle.preprocess.proofs.Standing.{lexeme_token}
use Rattle.preprocess.proofs.preprocessor.Preprocessor.add_token.Goals as goal

pub push_token-requires : goal.push_token-requires
push_token-requires c = lexeme_token c.args.self.now.work.files.items c.args.lexeme c.token_of.result c.token_of.ensures c.requires
