use Rattle.logic4.proofs.Places.{first_is, second_is, words_of}
use Rattle.logic4.proofs.bits.Bits.words.Goals as goal

pub returns-clause-value : goal.returns-clause-value
returns-clause-value c = λ k. (first_is c.self.invariant c.self.view_is k, second_is c.self.invariant c.self.view_is k)

pub returns-clause-words : goal.returns-clause-words
returns-clause-words c = words_of c.self.invariant c.self.view_is
