-- The cause's parts.
use Rattle.causes.proofs.parting.cause_by.Goals as goal

pub returns-clause-shown : goal.returns-clause-shown
returns-clause-shown c = λ code limits one other both. record {
  original = one;
  shown = record { named = both; exchanged = other; remembered = c.requires.remembered; apart = c.requires.apart };
}
