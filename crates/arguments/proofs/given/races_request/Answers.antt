-- What the words give.
use Rattle.arguments.proofs.given.races_request.Goals as goal

pub returns : goal.returns
returns c = record {
  in_range = c.search_options.ensures.fit;
  file = c.given_word.ensures;
  search_options = c.search_options.ensures.given;
  observed = c.requires.observed;
  journals = c.given_text.ensures;
}
