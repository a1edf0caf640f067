-- So often the pieces that were looked at name the register.
use Rattle.std.proofs.Common.{◌≡◌, take}
use Rattle.std.specs.List.{sum_by}
use Rattle.executed.specs.Deeds.{at_most_word, times_in_piece}
use Rattle.executed.proofs.deed.times_shown.Given as goal

abbrev pub invariant-loop-place : goal.invariant-loop-place
invariant-loop-place l = l.times ≡ at_most_word (sum_by (times_in_piece l.design l.register) (take l.place l.pieces))
