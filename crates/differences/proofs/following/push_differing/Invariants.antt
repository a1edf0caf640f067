-- What is still to be kept are the registers that are left.
use Rattle.std.proofs.Common.{◌≡◌, ◌++◌, drop}
use Rattle.differences.specs.ComparedValues.{differing, given_values}
use Rattle.differences.proofs.following.push_differing.Given as goal

abbrev pub invariant-loop-register : goal.invariant-loop-register
invariant-loop-register l =
    l.rows.items
    ++ differing l.time l.register (given_values (drop l.register l.first.values.now) (drop l.register l.first.givers.now))
    (given_values (drop l.register l.second.values.now) (drop l.register l.second.givers.now))
    ≡ l.fn.rows.items ++ differing l.time 0 (given_values l.first.values.now l.first.givers.now) (given_values l.second.values.now l.second.givers.now)
