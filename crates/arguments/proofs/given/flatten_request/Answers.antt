-- What the words give.
use Rattle.arguments.proofs.given.flatten_request.Goals as goal

pub returns : goal.returns
returns c = record {
  file = c.given_word.ensures;
  out = c.given_text.ensures;
}
