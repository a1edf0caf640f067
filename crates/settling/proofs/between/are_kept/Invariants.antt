-- Those that were looked at are kept.
use Rattle.std.proofs.Common.{◌≡◌, ℕ, ◌<◌, get_or}
use Rattle.model.specs.Expressions.{value_of}
use Rattle.settling.proofs.between.are_kept.Given as goal

abbrev pub invariant-loop-register : goal.invariant-loop-register
invariant-loop-register l = (k d : ℕ) → k < l.register-index → value_of l.begin (get_or l.registers k d) ≡ value_of l.end (get_or l.registers k d)
