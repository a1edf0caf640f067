-- What stands for all covers.
use Rattle.looseparts.proofs.Covering.{standing_covers, no_ends_cover}
use Rattle.looseparts.proofs.laws.standing_covers.Goals as goal

pub returns-clause-to_ends : goal.returns-clause-to_ends
returns-clause-to_ends c = standing_covers

pub returns-clause-no_ends : goal.returns-clause-no_ends
returns-clause-no_ends c = no_ends_cover
