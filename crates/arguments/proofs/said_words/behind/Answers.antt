use Rattle.arguments.proofs.SaidLemmas.{behind_is}
use Rattle.arguments.proofs.said_words.behind.Goals as goal

pub returns : goal.returns
returns c = behind_is c.args.beginning.now c.args.word.now c.strip_prefix.result c.strip_prefix.ensures.cases
