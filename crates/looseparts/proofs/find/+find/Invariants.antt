-- Each step has less depth behind it. What was found so far stands for all.
use Rattle.std.proofs.Common.{◌*◌, ◌+◌, take}
use Rattle.std.specs.List.{All}
use Rattle.design.specs.Compiled.{design_of}
use Rattle.loose.specs.Classes.{class_in}
use Rattle.regions.specs.Machine.{state_at}
use Rattle.looseparts.specs.StandTogether.{IsFollowedFirst}
use Rattle.looseparts.specs.FoundWays.{ways_in}
use Rattle.looseparts.specs.FoundGroups.{IsPart}
use Rattle.looseparts.proofs.find.+find.Given as goal

abbrev pub decreases-explore : goal.decreases-explore
decreases-explore l = 5 * l.depth

abbrev pub decreases-follow_one : goal.decreases-follow_one
decreases-follow_one l = 5 * l.depth + 1

abbrev pub decreases-follow : goal.decreases-follow
decreases-follow l = 5 * l.depth + 3

abbrev pub decreases-follow_each : goal.decreases-follow_each
decreases-follow_each l = 5 * l.depth + 2

abbrev pub decreases-part_of : goal.decreases-part_of
decreases-part_of l = 5 * l.depth + 4

abbrev pub invariant-explore-loop-actor : goal.invariant-explore-loop-actor
invariant-explore-loop-actor l = All (IsPart (class_in l.classes) l.machine.code (state_at l.machine)) l.parts.items

abbrev pub invariant-follow_each-loop-actor : goal.invariant-follow_each-loop-actor
invariant-follow_each-loop-actor l =
    All (IsFollowedFirst (class_in l.classes) (design_of l.machine.code) (state_at l.machine) l.group (ways_in l.found.ways.items) (ways_in l.found.ends.items) l.found.notes.items)
    (take l.actor-index l.group)

abbrev pub invariant-part_of-loop-merged : goal.invariant-part_of-loop-merged
invariant-part_of-loop-merged l = All (IsPart (class_in l.classes) l.machine.code (state_at l.machine)) l.parts.items
