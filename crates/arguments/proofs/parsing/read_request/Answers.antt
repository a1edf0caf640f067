-- Why the words make no request.
use Rattle.clap.specs.Words.{kind_of}
use Rattle.arguments.specs.CommandWords.{texts_of}
use Rattle.arguments.proofs.WordLemmas.{refused}
use Rattle.arguments.proofs.parsing.read_request.Goals as goal

pub returns-in-Err-clause-refused : goal.returns-in-Err-clause-refused
returns-in-Err-clause-refused c = refused (texts_of c.args.words.now) (kind_of c.in-Err.error) c.refuse.result c.in-Err.ensures.failed c.refuse.ensures
