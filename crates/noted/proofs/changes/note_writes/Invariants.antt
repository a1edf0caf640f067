-- The registers of the first writes are noted.
use Rattle.std.proofs.Common.{◌≡◌, ◌++◌, map, take}
use Rattle.noted.proofs.changes.note_writes.Given as goal

abbrev pub invariant-loop-write : goal.invariant-loop-write
invariant-loop-write l = l.registers ≡ l.fn.registers ++ map (λ w. w.0) (take l.write-index l.writes)
