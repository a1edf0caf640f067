use Rattle.std.proofs.Common.{◌≡◌, length}
use Rattle.std.specs.Prelude.{vec_len}
use Rattle.std.specs.Vec.{vec_capacity}
use Rattle.workers.proofs.batch.Batch.new.Given as goal

abbrev pub invariant-loop-turn : goal.invariant-loop-turn
invariant-loop-turn g l = (vec_len l.logs ≡ l._turn) × (length l.logs.items ≡ l._turn) × (vec_capacity l.logs ≡ 16)
