-- The one token of a piece.
use Rattle.std.proofs.Common.{◌≡◌, ℕ, List, [], ◌∷◌, ◌++◌, map, ap, ◌∙◌, refl, sym}
use Rattle.std.proofs.lemmas.List.{map-append}
use Rattle.tokens.specs.declared.token.Kind.{Kind}
use Rattle.tokens.specs.Literals.{literal_value_of, token_value, token_digits}
use Rattle.tokens.specs.Tokens.{PlainToken, plain_token}
use Rattle.tokens.specs.Lexing.{kind_of}
use Rattle.tokens.proofs.Chain.{reading_one, reading_none}
use Rattle.tokens.proofs.cut.add.Goals as goal

abbrev made : Kind → List ℕ → PlainToken
made kind text = record { kind = kind; text = text; value = token_value text; bits = token_digits text }

same : (k l : Kind) (s t : List ℕ) → k ≡ l → s ≡ t → made k s ≡ made l t
same k l s t h e = ap (λ x. made x s) h ∙ ap (made l) e

pub returns-then-branch : goal.returns-then-branch
returns-then-branch c = reading_none c.args.piece.now c.in_ok-is_bad_number.field-0 (sym c.is_skipped.ensures ∙ c.if-is_skipped.false) c.in_ok-is_bad_number.ensures c.if-branch.true

pub returns : goal.returns
returns c = (
  made (kind_of c.args.piece.now) c.args.piece.now ∷ [],
  reading_one c.args.piece.now (literal_value_of c.args.piece.now) c.in_ok-is_bad_number.field-0 (sym c.is_skipped.ensures ∙ c.if-is_skipped.false)
      refl c.in_ok-is_bad_number.ensures c.if-branch.false,
  ap (map plain_token) c.in_ok-push.ensures.items ∙ map-append plain_token c.args.found.now.items _
      ∙ ap (λ t. map plain_token c.args.found.now.items ++ t ∷ []) (same _ _ _ _ c.kind_of-kind.ensures c.text_of-text.ensures),
)
