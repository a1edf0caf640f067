use Rattle.preprocess.proofs.Standing.{token_span}
use Rattle.preprocess.proofs.work.Work.push_token.Goals as goal

pub returns-then-len-ge-MOST_TOKENS-clause-fault : goal.returns-then-len-ge-MOST_TOKENS-clause-fault
returns-then-len-ge-MOST_TOKENS-clause-fault c = token_span c.args.self.now.files.items c.args.token c.requires
