-- Which token stands at a place. Places are counted from 0, and at the number of the tokens the text ends.
use Rattle.std.specs.Prelude.{ℕ, ◌+◌, List, length, nat_lt, if◌then◌else◌, Bool, true, false, Option, Some, None, slice_get}
use Rattle.lexemes.specs.declared.token.Keyword.{Keyword}
use Rattle.lexemes.specs.declared.token.Sign.{Sign}
use Rattle.lexemes.specs.declared.token.TokenKind.{TokenKind}
use Rattle.lexemes.specs.declared.token.VerilogToken.{VerilogToken}
use Rattle.lexemes.specs.declared.token.TokenKind.TheVariants.{Name, EscapedName, Base, BasedDigits}
use Rattle.lexemes.specs.Kinds.{is_keyword, is_sign}

-- The kind of a token, if there is one.
abbrev pub kind_of_token : Option VerilogToken → Option TokenKind
kind_of_token None = None
kind_of_token (Some t) = Some t.kind

-- The kind of the token at a place, if there is one.
abbrev pub kind_at : List VerilogToken → ℕ → Option TokenKind
kind_at ts a = kind_of_token (slice_get ts a)

-- Whether a kind is there, and is this sign.
abbrev pub is_kind_sign : Option TokenKind → Sign → Bool
is_kind_sign None s = false
is_kind_sign (Some k) s = is_sign k s

-- Whether a kind is there, and is this keyword.
abbrev pub is_kind_keyword : Option TokenKind → Keyword → Bool
is_kind_keyword None w = false
is_kind_keyword (Some k) w = is_keyword k w

-- Whether this sign stands at a place.
abbrev pub sign_at : List VerilogToken → ℕ → Sign → Bool
sign_at ts a s = is_kind_sign (kind_at ts a) s

-- Whether this keyword stands at a place.
abbrev pub keyword_at : List VerilogToken → ℕ → Keyword → Bool
keyword_at ts a w = is_kind_keyword (kind_at ts a) w

-- Whether a token is a name, escaped or not (3.7).
abbrev pub is_name_token : TokenKind → Bool
is_name_token Name = true
is_name_token EscapedName = true
is_name_token _ = false

abbrev pub is_kind_name : Option TokenKind → Bool
is_kind_name None = false
is_kind_name (Some k) = is_name_token k

-- Whether a name stands at a place.
abbrev pub name_at : List VerilogToken → ℕ → Bool
name_at ts a = is_kind_name (kind_at ts a)

-- Whether a token is the base of a number (3.5.1).
abbrev pub is_base : TokenKind → Bool
is_base Base = true
is_base _ = false

abbrev pub is_kind_base : Option TokenKind → Bool
is_kind_base None = false
is_kind_base (Some k) = is_base k

-- Whether the base of a number stands at a place.
abbrev pub base_at : List VerilogToken → ℕ → Bool
base_at ts a = is_kind_base (kind_at ts a)

-- Whether a token is what stands behind the base of a number (3.5.1).
abbrev pub is_based_digits : TokenKind → Bool
is_based_digits BasedDigits = true
is_based_digits _ = false

abbrev pub is_kind_digits : Option TokenKind → Bool
is_kind_digits None = false
is_kind_digits (Some k) = is_based_digits k

-- Whether digits behind a base stand at a place.
abbrev pub has_digits_at : List VerilogToken → ℕ → Bool
has_digits_at ts a = is_kind_digits (kind_at ts a)

-- The place behind the token at a place; behind the last there is none.
abbrev pub behind : List VerilogToken → ℕ → ℕ
behind ts a = if nat_lt a (length ts) then a + 1 else a
