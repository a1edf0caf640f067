-- Texts that are shown, character by character.
use Rattle.std.proofs.Common.{◌≡◌, ◌∙◌, ap, sym, subst, ℕ, List, [], ◌∷◌, ◌++◌, length, take, drop, append_assoc, flat_map}
use Rattle.std.specs.Prelude.{encode_utf8, encode_utf8_all}
use Rattle.std.proofs.lemmas.List.{append-nil, flat_map_more}
use Rattle.std.proofs.lemmas.Str.{encodes-append}
use Rattle.std.proofs.lemmas.Iterator.{YieldsList}
use Rattle.std.proofs.lemmas.Iterator.Consumers.{YieldsList-from_shown}
use Rattle.std.specs.Char.Escape.{escape_default}
use Rattle.std.specs.Char.Iter.{escape_rest, escape_steps}

-- the characters of an escape
pub escape_yields : {s : _} (c : ℕ) → escape_rest s ≡ escape_default c → YieldsList escape_steps (λ (x : ℕ). x) s (escape_default c)
escape_yields {s} c e =
    subst (YieldsList escape_steps (λ (x : ℕ). x) s) e (YieldsList-from_shown escape_steps (λ (x : ℕ). x) escape_rest
    (λ t u h. ap (λ n. length (take n (drop t.from t.chars))) h.1.0) (λ t x u h. h.1.0) s)

-- one character more stands there by its bytes
pub one_letter_more : (new text old so_far : List ℕ) (c : ℕ) → new ≡ text ++ encode_utf8 c → text ≡ old ++ encode_utf8_all so_far → new ≡ old ++ encode_utf8_all (so_far ++ c ∷ [])
one_letter_more new text old so_far c put is =
    let last : encode_utf8_all (so_far ++ c ∷ []) ≡ encode_utf8_all so_far ++ encode_utf8 c = encodes-append so_far (c ∷ []) ∙ ap (λ w. encode_utf8_all so_far ++ w) (append-nil (encode_utf8 c)) in
    put ∙ ap (λ w. w ++ encode_utf8 c) is ∙ append_assoc old (encode_utf8_all so_far) (encode_utf8 c) ∙ ap (λ w. old ++ w) (sym last)

-- what is made of one character more stands there
pub one_more_shown : (f : ℕ → List ℕ) (new text old so_far : List ℕ) (c : ℕ) → new ≡ text ++ f c → text ≡ old ++ flat_map f so_far → new ≡ old ++ flat_map f (so_far ++ c ∷ [])
one_more_shown f new text old so_far c put is = put ∙ ap (λ w. w ++ f c) is ∙ flat_map_more f old so_far c
