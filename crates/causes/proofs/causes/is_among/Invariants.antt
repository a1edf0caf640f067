-- None of those that were looked at is of the pair.
use Rattle.std.proofs.Common.{ℕ, ◌<◌, get_or}
use Rattle.causes.specs.declared.parting_race.PartingRace.{PartingRace}
use Rattle.causes.specs.Causes.{IsNewCause}
use Rattle.causes.proofs.causes.is_among.Given as goal

abbrev pub invariant-loop-cause : goal.invariant-loop-cause
invariant-loop-cause l = (k : ℕ) (d : PartingRace) → k < l.cause-index → IsNewCause l.pair (get_or l.causes k d)
