-- What ways by parts cover is covered.
use Rattle.looseparts.proofs.EndingCover.{covering_to_ends_is_covered}
use Rattle.looseparts.proofs.laws.covering_to_ends.Goals as goal

pub returns : goal.returns
returns g c = covering_to_ends_is_covered g.N.AnyNodes.holds
