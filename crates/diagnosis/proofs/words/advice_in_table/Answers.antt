-- The rows of the program's table are those of the definition's.
use Rattle.diagnosis.specs.LackedWords.{lacked_words}
use Rattle.diagnosis.proofs.words.advice_in_table.Goals as goal

pub returns : goal.returns
unfolding lacked_words
returns c = c.advice_in.ensures
