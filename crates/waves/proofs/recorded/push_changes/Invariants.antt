-- What is still to be told are the differences of the registers that are left.
use Rattle.std.proofs.Common.{◌≡◌, ◌++◌, drop}
use Rattle.waves.specs.Changes.{differences}
use Rattle.waves.proofs.recorded.push_changes.Given as goal

abbrev pub invariant-loop-register : goal.invariant-loop-register
invariant-loop-register l =
    l.changes.items ++ differences l.time l.register (drop l.register l.olds) (drop l.register l.news)
    ≡ l.fn.changes.items ++ differences l.time 0 l.olds l.news
