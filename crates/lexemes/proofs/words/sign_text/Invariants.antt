-- What the rows that are left have for the sign is what the table has.
use Rattle.std.proofs.Common.{◌≡◌, length, map}
use Rattle.lexemes.specs.Kinds.{sign_kinds, sign_spelling}
use Rattle.lexemes.proofs.words.sign_text.Given as goal

abbrev pub invariant-loop-left : goal.invariant-loop-left
invariant-loop-left l = sign_spelling (map (λ row. (row.0.now, row.1)) l.left) l.found ≡ sign_spelling sign_kinds l.found

abbrev pub decreases-loop-left : goal.decreases-loop-left
decreases-loop-left l = length l.left
