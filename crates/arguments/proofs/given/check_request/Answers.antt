-- What the words give.
use Rattle.arguments.proofs.given.check_request.Goals as goal

pub returns : goal.returns
returns c = record {
  file = c.given_word.ensures;
  all = c.given_flag.ensures;
}
