-- What was put there, and the code of what is left, make the whole.
use Rattle.std.proofs.Common.{◌≡◌, ◌++◌}
use Rattle.lawful.specs.ArrangedNodes.{number_code}
use Rattle.lawful.proofs.tail_key.put_number.Given as goal

abbrev pub invariant-loop-rest : goal.invariant-loop-rest
invariant-loop-rest l = l.bytes.items ++ number_code l.rest ≡ l.fn.bytes.items ++ number_code l.fn.number

abbrev pub decreases-loop-rest : goal.decreases-loop-rest
decreases-loop-rest l = l.rest
