-- An error of the kind of the words.
use Rattle.arguments.specs.CommandWords.{kind_in_vain}
use Rattle.arguments.proofs.parsing.in_vain.Goals as goal

pub returns : goal.returns
returns c = c.made.ensures (kind_in_vain c.args.vain) c.said_in_vain.ensures
