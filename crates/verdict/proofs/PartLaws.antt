-- One part more, behind those before it.
use Rattle.std.proofs.Common.{◌≡◌, ◌∙◌, ap, sym, ℕ, List, [], ◌∷◌, ◌++◌, refl}
use Rattle.verdict.specs.LineParts.{line_part_text, line_parts_text, text_with_parts}
use Rattle.verdict.specs.declared.parts.LinePart.{LinePart}
use Rattle.verdict.proofs.Pieces.{joined}

more_behind : (text : List ℕ) (ps : List LinePart) (p : LinePart) → text_with_parts text (ps ++ p ∷ []) ≡ text_with_parts text ps ++ line_part_text p
more_behind text [] p = refl
more_behind text (q ∷ ps) p = more_behind (text ++ line_part_text q) ps p

more_parts : (ps : List LinePart) (p : LinePart) → line_parts_text (ps ++ p ∷ []) ≡ line_parts_text ps ++ line_part_text p
more_parts [] p = refl
more_parts (q ∷ ps) p = more_behind (line_part_text q) ps p

-- where one was put behind those before it
pub part_more : (new old mid : List ℕ) (ps more : List LinePart) (p : LinePart) → more ≡ ps ++ p ∷ [] → mid ≡ old ++ line_parts_text ps → new ≡ mid ++ line_part_text p
    → new ≡ old ++ line_parts_text more
part_more new old mid ps more p e k h =
    joined new old (line_parts_text ps) mid (line_part_text p) h k ∙ ap (λ (w : List ℕ). old ++ w) (sym (ap line_parts_text e ∙ more_parts ps p))
