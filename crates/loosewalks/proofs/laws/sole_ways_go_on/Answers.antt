-- Ways that stand for all, one after another.
use Rattle.loosewalks.proofs.SoleLooseWays as ways
use Rattle.loosewalks.proofs.laws.sole_ways_go_on.Goals as goal

pub returns-clause-reached : goal.returns-clause-reached
returns-clause-reached c = ways.like_reached_goes_on

pub returns-clause-alike : goal.returns-clause-alike
returns-clause-alike c = ways.alike_stand_for_all

pub returns-clause-ways : goal.returns-clause-ways
returns-clause-ways c = ways.sole_loose_ways_go_on
