-- What the words give.
use Rattle.arguments.proofs.given.run_request.Goals as goal

pub returns : goal.returns
returns c = record {
  in_range = c.options.ensures.fit;
  file = c.given_word.ensures;
  options = c.options.ensures.given;
  seed = c.given_seed.ensures;
  one_order = c.requires.one_order;
  journal = c.given_text.ensures;
}
