-- First steps, and parts.
use Rattle.looseparts.proofs.Following.{followed_stand, apart_stand}
use Rattle.looseparts.proofs.laws.what_stands_is_put_together.Goals as goal

pub returns-clause-followed : goal.returns-clause-followed
returns-clause-followed c = followed_stand

pub returns-clause-apart : goal.returns-clause-apart
returns-clause-apart c = apart_stand
