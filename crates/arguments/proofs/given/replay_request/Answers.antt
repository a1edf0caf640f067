-- What the words give.
use Rattle.arguments.proofs.given.replay_request.Goals as goal

pub returns : goal.returns
returns c = record {
  file = c.given_word.ensures;
  journal = c.given_word-2.ensures;
}
