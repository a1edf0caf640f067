-- What the rows that are left have for the word is what the table has.
use Rattle.std.proofs.Common.{◌≡◌, length, map}
use Rattle.lexemes.specs.Kinds.{keyword_spelling}
use Rattle.lexemes.proofs.words.keyword_in.Given as goal

abbrev pub invariant-loop-left : goal.invariant-loop-left
invariant-loop-left l =
    keyword_spelling (map (λ row. (row.0.now, row.1)) l.left) l.other l.found ≡ keyword_spelling (map (λ row. (row.0.now, row.1)) l.table) l.other l.found

abbrev pub decreases-loop-left : goal.decreases-loop-left
decreases-loop-left l = length l.left
