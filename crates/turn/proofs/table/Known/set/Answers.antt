use Rattle.std.proofs.Common.{rules, length, ◌≤◌}
use Rattle.turn.proofs.Slots.{known_set, known_past}
use Rattle.turn.proofs.table.Known.set.Goals as goal
use Rattle.turn.proofs.table.Known.set.Goals.{in-Some, in_default}

pub returns : goal.returns
returns c = elim c.match-get_mut.branch [
  | in-Some w ↦ rw (w.self-inside-is, ← c.self.view_is) (known_set c.self.inside.stamp c.self.inside.slots.items c.args.register c.args.value.now)
  | in_default w ↦
      let past : length c.self.inside.slots.items ≤ c.args.register = search rules in
      rw (w.self-inside-is, ← c.self.view_is) (known_past c.self.inside.stamp c.self.inside.slots.items c.args.register c.args.value.now past)
]
