-- What the rows that are left have for the text is what the table has.
use Rattle.std.proofs.Common.{◌≡◌, length, map}
use Rattle.lexemes.specs.Kinds.{kind_of_text}
use Rattle.lexemes.proofs.words.kind_of_text.Given as goal

abbrev pub invariant-loop-left : goal.invariant-loop-left
invariant-loop-left l = kind_of_text (map (λ row. (row.0.now, row.1)) l.left) l.text ≡ kind_of_text (map (λ row. (row.0.now, row.1)) l.table) l.text

abbrev pub decreases-loop-left : goal.decreases-loop-left
decreases-loop-left l = length l.left
