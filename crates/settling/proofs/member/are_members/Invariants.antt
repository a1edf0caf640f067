-- Those that were looked at are members.
use Rattle.std.proofs.Common.{ℕ, ◌<◌, get_or}
use Rattle.regions.specs.Machine.{state_at}
use Rattle.settling.specs.Settling.{IsMember}
use Rattle.settling.proofs.member.are_members.Given as goal

abbrev pub invariant-loop-member : goal.invariant-loop-member
invariant-loop-member l = (k d : ℕ) → k < l.member-index → IsMember l.machine.code (state_at l.machine) l.network (get_or l.members k d)
