use Rattle.std.proofs.Common.{◌≡◌, ◌++◌}
use Rattle.statekeys.specs.KeyCodes.{nat_code}
use Rattle.statekeys.proofs.encode.put_digits.Given as goal

abbrev pub invariant-loop-left : goal.invariant-loop-left
invariant-loop-left l = l.bytes.items ++ nat_code l.left ≡ l.initial.bytes.items ++ nat_code l.initial.left

abbrev pub decreases-loop-left : goal.decreases-loop-left
decreases-loop-left l = l.left
