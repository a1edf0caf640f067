-- Those that were looked at settle.
use Rattle.std.proofs.Common.{ℕ, ◌<◌, get_or}
use Rattle.settling.specs.Settled.{HasSettledSince}
use Rattle.settling.proofs.between.all_settle.Given as goal

abbrev pub invariant-loop-member : goal.invariant-loop-member
invariant-loop-member l = (k d : ℕ) → k < l.member-index → HasSettledSince l.begin l.machine l.network (get_or l.members k d)
