-- What was put there, and the code of what is left, make the whole.
use Rattle.std.proofs.Common.{◌≡◌, ◌++◌, length}
use Rattle.lawful.specs.ArrangedNodes.{bytes_code}
use Rattle.lawful.proofs.tail_key.put_bytes.Given as goal

abbrev pub invariant-loop-first : goal.invariant-loop-first
invariant-loop-first l = l.bytes.items ++ bytes_code l.rest ≡ l.fn.bytes.items ++ bytes_code l.fn.text

abbrev pub decreases-loop-first : goal.decreases-loop-first
decreases-loop-first l = length l.rest
