-- Held ways cover.
use Rattle.heldways.proofs.AsleepEnds.{certified_keep_off, held_ends_in_one_node}
use Rattle.heldways.proofs.HeldCovering.{held_way_covers}
use Rattle.heldways.proofs.laws.held_ways_cover.Goals as goal

pub returns-clause-keep : goal.returns-clause-keep
returns-clause-keep c = certified_keep_off

pub returns-clause-node : goal.returns-clause-node
returns-clause-node c = held_ends_in_one_node

pub returns-clause-covers : goal.returns-clause-covers
returns-clause-covers c = held_way_covers
