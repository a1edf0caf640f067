-- Arguments that formats show.
use Rattle.std.proofs.Common.{◌≡◌, ◌∙◌, ap, sym, ℕ, ◌+◌, ◌<◌, List, [], ◌∷◌, ◌++◌, map, length, get_or, drop, refl, arith}
use Rattle.std.proofs.lemmas.List.{at_drop_more}
use Rattle.model.specs.declared.tree.SourceExpression as expression
use Rattle.model.specs.declared.tree.Piece as program
use Rattle.model.specs.Syntax.{Piece, Byte, Argument, Nothing}
use Rattle.model.specs.SourceTrees.{piece_of, source_expression_of, source_expressions}
use Rattle.flattext.specs.Formats.{shown_arguments}

nothing_shown : (pieces : List Piece) → shown_arguments pieces Nothing ≡ []
nothing_shown [] = refl
nothing_shown (Byte byte ∷ pieces) = nothing_shown pieces
nothing_shown (Argument conversion ∷ pieces) = refl

-- without arguments nothing is shown
pub none_shown : (pieces : List Piece) (arguments : List expression.SourceExpression) → length arguments < 1 → shown_arguments pieces (source_expressions (map source_expression_of arguments)) ≡ []
none_shown pieces [] h = nothing_shown pieces
none_shown pieces (e ∷ es) h = absurd (omega arith)

-- the argument of one piece more is put, if it shows one
pub shown_more : (new text whole : List ℕ) (ps : List program.Piece) (i : ℕ) (p : program.Piece) (left rest : List expression.SourceExpression) → i < length ps → p ≡ get_or ps i p
    → text ++ shown_arguments (map piece_of (drop i ps)) (source_expressions (map source_expression_of left)) ≡ whole
    → ((pieces : List Piece) → new ++ shown_arguments pieces (source_expressions (map source_expression_of rest)) ≡ text ++ shown_arguments (piece_of p ∷ pieces) (source_expressions (map source_expression_of left)))
    → new ++ shown_arguments (map piece_of (drop (i + 1) ps)) (source_expressions (map source_expression_of rest)) ≡ whole
shown_more new text whole ps i p left rest h is before put =
    put (map piece_of (drop (i + 1) ps))
    ∙ ap (λ (q : program.Piece). text ++ shown_arguments (piece_of q ∷ map piece_of (drop (i + 1) ps)) (source_expressions (map source_expression_of left))) is
    ∙ sym (at_drop_more (λ ys. text ++ shown_arguments (map piece_of ys) (source_expressions (map source_expression_of left))) ps i p h)
    ∙ before
