-- Those that were looked at pass.
use Rattle.std.proofs.Common.{ℕ, ◌<◌, get_or}
use Rattle.regions.specs.Machine.{state_at}
use Rattle.passing.specs.Moves.{passes_by}
use Rattle.passing.specs.Combinations.{MemberPasses}
use Rattle.passing.proofs.outputs.members_tested.Given as goal

abbrev pub invariant-loop-process : goal.invariant-loop-process
invariant-loop-process l = (k d : ℕ) → k < l.process-index → MemberPasses l.machine.code l.held.network.now l.held.cone.now l.held.values.now (state_at l.machine).time (passes_by l.moves) (get_or l.held.members.now k d)
