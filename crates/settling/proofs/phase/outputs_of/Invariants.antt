-- The outputs of those that were looked at are there.
use Rattle.std.proofs.Common.{ℕ, ◌<◌, get_or}
use Rattle.settling.proofs.Listed.{HasOutputsOf}
use Rattle.settling.proofs.phase.outputs_of.Given as goal

abbrev pub invariant-loop-member : goal.invariant-loop-member
invariant-loop-member l = (k d : ℕ) → k < l.member-index → HasOutputsOf l.network.logics.items l.registers.items (get_or l.members k d)
