-- Hidden variables that are made behind others.
use Rattle.std.proofs.Common.{◌≡◌, ℕ, List, [], ◌∷◌, ◌++◌, map, append_assoc, append-nil, sym, ap, ◌∙◌}
use Rattle.std.proofs.lemmas.List.{map-append}
use Rattle.statement_parts.specs.Statements.{SourceText}
use Rattle.lowering.specs.declared.hidden.Hidden.{Hidden}
use Rattle.lowering.specs.Hidden.{HiddenList, hidden_of, Makes}

-- none is made
pub makes_none : (old : HiddenList) (P : HiddenList → Type 0) → P [] → Makes old old P
makes_none old P h = ([], sym (append-nil old), h)

-- what holds of those that are made
pub makes_map : (old new : HiddenList) (P Q : HiddenList → Type 0) → ((used : HiddenList) → P used → Q used) → Makes old new P → Makes old new Q
makes_map old new P Q f m = (m.0, m.1, f m.0 m.2)

-- some are made, and then others
pub makes_both : (old mid new : HiddenList) (P Q R : HiddenList → Type 0) → ((used more : HiddenList) → P used → Q more → R (used ++ more)) → Makes old mid P → Makes mid new Q → Makes old new R
makes_both old mid new P Q R f m k = (m.0 ++ k.0, k.1 ∙ ap (λ (xs : HiddenList). xs ++ k.0) m.1 ∙ append_assoc old m.0 k.0, f m.0 k.0 m.2 k.2)

-- the variables behind a push
pub hidden_push : (old new : List Hidden) (h : Hidden) (name : SourceText) (width : ℕ) → new ≡ old ++ h ∷ [] → hidden_of h ≡ (name, width) → map hidden_of new ≡ map hidden_of old ++ (name, width) ∷ []
hidden_push old new h name width e is = ap (map hidden_of) e ∙ map-append hidden_of old (h ∷ []) ∙ ap (λ (x : SourceText × ℕ). map hidden_of old ++ x ∷ []) is
