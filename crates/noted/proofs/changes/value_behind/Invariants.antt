-- None of the writes from a place on is of the register.
use Rattle.std.proofs.Common.{◌≡◌, false, map, drop}
use Rattle.model.specs.Turns.{contains}
use Rattle.noted.proofs.changes.value_behind.Given as goal

abbrev pub invariant-loop-place : goal.invariant-loop-place
invariant-loop-place l = contains (map (λ u. u.0) (drop l.place l.earlier)) l.register ≡ false
