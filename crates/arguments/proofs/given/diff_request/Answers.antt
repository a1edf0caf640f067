-- What the words give.
use Rattle.arguments.proofs.given.diff_request.Goals as goal

pub returns : goal.returns
returns c = record {
  file = c.given_word.ensures;
  first = c.given_word-2.ensures;
  second = c.given_word-3.ensures;
  all_times = c.given_flag.ensures;
}
