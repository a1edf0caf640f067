-- The pieces of a line, one after another.
use Rattle.std.proofs.Common.{◌≡◌, ℕ, ◌+◌, ◌<◌, List, length, drop, get_or, sym, subst}
use Rattle.std.proofs.lemmas.List.{drop_more}
use Rattle.design.specs.declared.code.Op.{Op}
use Rattle.design.specs.declared.code.LinePiece.{LinePiece}
use Rattle.turn.specs.RunningTurn.{Status, PrintsPiece, PrintsPieces}

-- what is printed from a place on is what is printed by the piece there, and from the next one on
pub prints_more : (ops : List Op) (pieces : List LinePiece) (i : ℕ) (piece : LinePiece) (s0 s s1 t : Status) → i < length pieces → piece ≡ get_or pieces i piece → (PrintsPieces ops (drop i pieces) s t → PrintsPieces ops pieces s0 t) → PrintsPiece ops piece s s1 → PrintsPieces ops (drop (i + 1) pieces) s1 t → PrintsPieces ops pieces s0 t
prints_more ops pieces i piece s0 s s1 t lt is before one rest =
    let here = subst (λ p. PrintsPiece ops p s s1) is one in
    before (subst (λ ps. PrintsPieces ops ps s t) (sym (drop_more pieces i piece lt)) (s1, (here, rest)))
