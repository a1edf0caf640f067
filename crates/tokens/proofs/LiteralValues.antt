-- What the bytes of a token are worth.
use Rattle.std.proofs.Common.{◌≡◌, ℕ, List, [], ◌∷◌, Bool, true, false, ◌&&◌, if◌then◌else◌, Option, Some, None, option_map, refl}
use Rattle.logic4.specs.Vector.{Vector}
use Rattle.tokens.specs.ByteClasses.{is_digit, all}
use Rattle.tokens.specs.Literals.{LiteralValue, plain_literal_value, decimal_of, literal_of, numeral_value_of, literal_value_or_none, token_value}

-- a number, or 0
abbrev pub number_or_none : Option ℕ → ℕ
number_or_none None = 0
number_or_none (Some n) = n

of_number : (digits : Bool) (n : Option ℕ) (v : Option Vector)
    → (literal_value_or_none (if digits then option_map plain_literal_value n else option_map (λ v. (0, Some v)) v)).0 ≡ (if digits then number_or_none n else 0)
of_number true None v = refl
of_number true (Some n) v = refl
of_number false n None = refl
of_number false n (Some v) = refl

number_value : (text : List ℕ) → (literal_value_or_none (numeral_value_of text)).0 ≡ (if all is_digit text then number_or_none (decimal_of text) else 0)
unfolding numeral_value_of
number_value text = of_number (all is_digit text) (decimal_of text) (literal_of text)

of_token : (first others : Bool) (w : Option LiteralValue) (n : ℕ) → (literal_value_or_none w).0 ≡ (if first && others then n else 0)
    → (literal_value_or_none (if first then w else Some (0, None))).0 ≡ (if first && others then n else 0)
of_token true others w n h = h
of_token false others w n h = refl

-- a plain decimal has a number, and no other token
pub value_is : (text : List ℕ) → token_value text ≡ (if all is_digit text then number_or_none (decimal_of text) else 0)
unfolding token_value decimal_of
value_is [] = refl
value_is (b ∷ bs) = of_token (is_digit b) (all is_digit bs) (numeral_value_of (b ∷ bs)) _ (number_value (b ∷ bs))
