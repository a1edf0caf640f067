-- Each of them by its word.
use Rattle.arguments.proofs.said_words.design_option.Goals as goal

pub returns : goal.returns
returns c = cc
