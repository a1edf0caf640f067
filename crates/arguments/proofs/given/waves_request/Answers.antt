-- What the words give.
use Rattle.arguments.proofs.given.waves_request.Goals as goal

pub returns : goal.returns
returns c = record {
  file = c.given_word.ensures;
  journal = c.given_word-2.ensures;
  out = c.given_word-3.ensures;
}
