-- What the rows that are left have for the word is what the table has.
use Rattle.std.proofs.Common.{◌≡◌, length, map}
use Rattle.diagnosis.specs.LackedWords.{advice_in}
use Rattle.diagnosis.proofs.words.advice_in.Given as goal

abbrev pub invariant-loop-left : goal.invariant-loop-left
invariant-loop-left l = advice_in (map (λ row. (row.0.now, row.1)) l.left) l.text ≡ advice_in (map (λ row. (row.0.now, row.1)) l.table) l.text

abbrev pub decreases-loop-left : goal.decreases-loop-left
decreases-loop-left l = length l.left
