-- What the rows that are left have for the word is what the table has.
use Rattle.std.proofs.Common.{◌≡◌, length, map}
use Rattle.source_texts.specs.Settings.{power_of_word}
use Rattle.source_texts.proofs.settings.power_of_word.Given as goal

abbrev pub invariant-loop-left : goal.invariant-loop-left
invariant-loop-left l = power_of_word (map (λ row. (row.0.now, row.1)) l.left) l.word ≡ power_of_word (map (λ row. (row.0.now, row.1)) l.table) l.word

abbrev pub decreases-loop-left : goal.decreases-loop-left
decreases-loop-left l = length l.left
