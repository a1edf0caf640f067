-- Tokens as plain data, without the program's slices.
use Rattle.std.specs.Prelude.{ℕ, List, Bool, Option}
use Rattle.logic4.specs.Vector.{Vector}
use Rattle.tokens.specs.declared.token.Kind.{Kind}
use Rattle.tokens.specs.contracts.token.Kind.{the_type}
use Rattle.tokens.specs.declared.token.Token.{Token}
use Rattle.tokens.specs.Literals.{token_value, token_digits}
use denote.Enum.Bare.{sameb}

-- A token: its kind, its bytes, the value of a plain decimal, and the digits of a sized literal.
pub record PlainToken : Type 0 where
  pub kind : Kind
  pub text : List ℕ
  pub value : ℕ
  pub bits : Option Vector

-- Tokens in the order of the text.
abbrev pub PlainTokens : Type 0
PlainTokens = List PlainToken

-- The plain token that a token of the program stands for, with the value and the digits of its bytes.
abbrev pub plain_token : Token → PlainToken
plain_token t = record { kind = t.kind; text = t.text.now; value = token_value t.text.now; bits = token_digits t.text.now }

-- Whether two kinds are the same.
unfoldable pub same_kind : Kind → Kind → Bool
same_kind = sameb the_type
