-- Formats, of which one byte more is read.
use Rattle.std.proofs.Common.{◌≡◌, ℕ, List, ◌∷◌, ◌++◌, option_map, Option, Some, None, refl, sym, ap, ◌∙◌, append_assoc}
use Rattle.model.specs.Syntax.{Piece}
use Rattle.model.specs.Elaboration.{FormatStage, AtByte, AfterPercent, AfterZero, before_others, pieces_from, read_byte}

behind : (made next more : List Piece) → next ≡ made ++ more → (left : Option (List Piece))
    → option_map (λ ps. next ++ ps) left ≡ option_map (λ ps. made ++ ps) (option_map (λ ps. more ++ ps) left)
behind made next more e None = refl
behind made next more e (Some ps) = ap Some (ap (λ xs. xs ++ ps) e ∙ append_assoc made more ps)

-- the pieces that are made, and those of what is left to read
pub one_byte : (made next more : List Piece) (stage after : FormatStage) (b : ℕ) (bs : List ℕ) → read_byte stage b ≡ Some (after, more) → next ≡ made ++ more
    → option_map (λ ps. next ++ ps) (pieces_from after bs) ≡ option_map (λ ps. made ++ ps) (pieces_from stage (b ∷ bs))
one_byte made next more AtByte after b bs r e =
    behind made next more e (pieces_from after bs) ∙ ap (λ o. option_map (λ ps. made ++ ps) (before_others o (λ s. pieces_from s bs))) (sym r)
one_byte made next more AfterPercent after b bs r e =
    behind made next more e (pieces_from after bs) ∙ ap (λ o. option_map (λ ps. made ++ ps) (before_others o (λ s. pieces_from s bs))) (sym r)
one_byte made next more AfterZero after b bs r e =
    behind made next more e (pieces_from after bs) ∙ ap (λ o. option_map (λ ps. made ++ ps) (before_others o (λ s. pieces_from s bs))) (sym r)

-- nothing is made of a byte that may not stand there
pub no_byte : (made : List Piece) (stage : FormatStage) (b : ℕ) (bs : List ℕ) → read_byte stage b ≡ None → option_map (λ ps. made ++ ps) (pieces_from stage (b ∷ bs)) ≡ None
no_byte made AtByte b bs r = ap (λ o. option_map (λ ps. made ++ ps) (before_others o (λ s. pieces_from s bs))) r
no_byte made AfterPercent b bs r = ap (λ o. option_map (λ ps. made ++ ps) (before_others o (λ s. pieces_from s bs))) r
no_byte made AfterZero b bs r = ap (λ o. option_map (λ ps. made ++ ps) (before_others o (λ s. pieces_from s bs))) r
