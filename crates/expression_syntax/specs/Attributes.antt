-- Attributes (IEEE 1364-2005, 3.8), which leave no node.
use Rattle.std.specs.Prelude.{◌≡◌, ℕ, List, true, false}
use Rattle.lexemes.specs.declared.token.Sign.TheVariants as sign
use Rattle.lexemes.specs.declared.token.VerilogToken.{VerilogToken}
use Rattle.expression_syntax.specs.declared.texts.TokenSource.{TokenSource}
use Rattle.expression_syntax.specs.Places.{sign_at, behind}

-- The tokens of a source.
abbrev pub tokens_of : TokenSource → List VerilogToken
tokens_of s = s.tokens.now

-- The rest of an attribute, up to its `*)` (3.8).
pub data IsAttributeRest (s : TokenSource) : ℕ → ℕ → Type 0 where
  closed : {a : ℕ} → sign_at (tokens_of s) a sign.CloseAttribute ≡ true → IsAttributeRest s a (behind (tokens_of s) a)
  inside : {a b : ℕ} → sign_at (tokens_of s) a sign.CloseAttribute ≡ false → IsAttributeRest s (behind (tokens_of s) a) b → IsAttributeRest s a b

-- Attributes (3.8), or none.
pub data AreAttributes (s : TokenSource) : ℕ → ℕ → Type 0 where
  no_attribute : {a : ℕ} → AreAttributes s a a
  attribute : {a m b : ℕ} → sign_at (tokens_of s) a sign.OpenAttribute ≡ true → IsAttributeRest s (behind (tokens_of s) a) m → AreAttributes s m b → AreAttributes s a b
