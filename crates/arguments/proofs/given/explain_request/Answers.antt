-- What the words give.
use Rattle.arguments.proofs.given.explain_request.Goals as goal

pub returns : goal.returns
returns c = record {
  file = c.given_word.ensures;
  journal = c.given_word-2.ensures;
  from = c.given_count.ensures.given;
  to = c.given_number.ensures.given;
  some_entry = c.requires.some;
  from_time = c.given_first_time.ensures;
  to_time = c.given_time.ensures;
  some_time = c.requires.some_time;
  radix = c.given_radix.ensures;
  versions = c.given_flag.ensures;
  registers = c.given_text.ensures;
}
