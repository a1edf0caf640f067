-- What is still to be put are the times of the entries that are left.
use Rattle.std.proofs.Common.{◌≡◌, ◌++◌, drop}
use Rattle.std.specs.Prelude.{flat_map}
use Rattle.differences.specs.ComparedValues.{advance_to}
use Rattle.differences.proofs.times.push_advances.Given as goal

abbrev pub invariant-loop-place : goal.invariant-loop-place
invariant-loop-place l =
    l.times.items ++ flat_map (advance_to l.last) (drop l.place l.entries) ≡ l.fn.times.items ++ flat_map (advance_to l.last) l.entries
