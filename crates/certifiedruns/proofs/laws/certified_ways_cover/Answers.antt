-- Certified ways cover.
use Rattle.certifiedruns.proofs.Covering.{certified_way_covers}
use Rattle.certifiedruns.proofs.laws.certified_ways_cover.Goals as goal

pub returns : goal.returns
returns c = certified_way_covers
