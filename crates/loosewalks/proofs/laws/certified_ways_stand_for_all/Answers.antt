-- Certified ways stand for all.
use Rattle.loosewalks.proofs.CertifiedWays.{certified_way_stands_for_all}
use Rattle.loosewalks.proofs.laws.certified_ways_stand_for_all.Goals as goal

pub returns : goal.returns
returns c = certified_way_stands_for_all
