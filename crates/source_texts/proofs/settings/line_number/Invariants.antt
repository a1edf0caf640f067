-- What the bytes that are left make of the number so far is the number of all.
use Rattle.std.proofs.Common.{◌≡◌, length}
use Rattle.source_texts.specs.Settings.{line_number_from}
use Rattle.source_texts.proofs.settings.line_number.Given as goal

abbrev pub invariant-loop-left : goal.invariant-loop-left
invariant-loop-left l = line_number_from l.number l.left ≡ line_number_from 0 l.text

abbrev pub decreases-loop-left : goal.decreases-loop-left
decreases-loop-left l = length l.left
