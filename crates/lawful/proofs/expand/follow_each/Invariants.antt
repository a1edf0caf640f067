use Rattle.std.proofs.Common.{take}
use Rattle.loose.specs.Classes.{class_in}
use Rattle.regions.specs.Machine.{state_at}
use Rattle.lawful.specs.LooseNodes.{AreLooseWaysFor}
use Rattle.lawful.proofs.expand.follow_each.Given as goal

abbrev pub invariant-loop-transition : goal.invariant-loop-transition
invariant-loop-transition l = AreLooseWaysFor (class_in l.scope.classes.now) l.machine.code l.scope.limits (state_at l.machine) (take l.transition-index l.transitions) l.ways.successors.items l.ways.ended.items
