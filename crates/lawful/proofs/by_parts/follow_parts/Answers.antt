-- The ways on, and the ways to ends.
use Rattle.std.proofs.Common.{◌∙◌, subst}
use Rattle.loose.specs.Classes.{class_in}
use Rattle.regions.specs.Machine.{MachineView, state_at}
use Rattle.looseparts.specs.FoundWays.{ways_in}
use Rattle.lawful.specs.ByParts.{AreWaysTaken}
use Rattle.lawful.proofs.by_parts.follow_parts.Goals as goal

pub returns : goal.returns
returns c =
    let class = class_in c.args.classes.now in
    let m = c.args.machine.value in
    let finished = c.in_ok-finished.finished.items in
    let taken : AreWaysTaken class m.code (state_at m) (ways_in c.args.found.ends.items) finished = subst (λ (p : MachineView). AreWaysTaken class p.code (state_at p) (ways_in c.args.found.ends.items) finished) c.deref.ensures c.in_ok-finished.ensures in
    record {
      nexts = c.in_ok-successors.ensures;
      ends = record {
        ways_are = c.in_ok-ended.ensures.ways_are ∙ taken.ways_are;
        to = c.in_ok-ended.ensures.to class m.code (state_at m) taken.on;
      };
    }
