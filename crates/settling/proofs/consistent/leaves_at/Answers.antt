-- A later write of the same register.
use Rattle.std.proofs.Common.{inl, arith}
use Rattle.settling.proofs.Leaving.{later_written}
use Rattle.settling.proofs.consistent.leaves_at.Goals as goal

pub returns-then-is_written : goal.returns-then-is_written
returns-then-is_written c = λ on d.
    inl (later_written c.args.writes.now c.split_at.result.1.now c.args.place c.index-writes-place.result d c.is_written.result (omega arith) c.index-writes-place.is c.split_at.ensures.back c.is_written.ensures on)
