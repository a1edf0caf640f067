-- Footprints are those of loose transitions, and tell what comes of a step.
use Rattle.footprints.proofs.AlikeFootprints.{footprint_is_alike, footprint_tells}
use Rattle.footprints.proofs.laws.footprints_are_alike.Goals as goal

pub returns-clause-alike : goal.returns-clause-alike
returns-clause-alike c = footprint_is_alike

pub returns-clause-tells : goal.returns-clause-tells
returns-clause-tells c = footprint_tells
