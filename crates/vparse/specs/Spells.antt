-- What a text spells: the grammar over the cut of the text into its longest tokens.
use Rattle.std.specs.Prelude.{ℕ, ◌+◌, ◌≤◌, List, length}
use Rattle.tokens.specs.Tokens.{PlainTokens}
use Rattle.tokens.specs.Lexing.{Cut}
use Rattle.model.specs.Syntax.{Module}
use Rattle.grammar.specs.Grammar.{IsModule}
use Rattle.vparse.specs.Nesting.{IsDeep, IsDeepAt}

-- A text spells a module: it is cut into tokens that are a spelling of the module.
pub record Spells (m : Module) (text : List ℕ) : Type 0 where
  pub tokens : PlainTokens
  pub cut : Cut text tokens
  pub is_module : IsModule m tokens

-- A text spells no module: it is cut into tokens, and these spell none. The token of this number, counted from 1, is one
-- of them, or the end of the text.
pub record IsUnspelledAt (text : List ℕ) (n : ℕ) : Type 0 where
  pub tokens : PlainTokens
  pub cut : Cut text tokens
  pub none : (m : Module) → IsModule m tokens → ⊥
  pub counted : 1 ≤ n
  pub within : n ≤ length tokens + 1

-- A text nests too deep: it is cut into tokens that do.
pub record IsDeepText (text : List ℕ) : Type 0 where
  pub tokens : PlainTokens
  pub cut : Cut text tokens
  pub is_deep : IsDeep tokens

-- A text nests too deep at the token of this number, counted from 1, and at none before it.
pub record IsDeepTextAt (text : List ℕ) (n : ℕ) : Type 0 where
  pub tokens : PlainTokens
  pub cut : Cut text tokens
  pub is_deep : IsDeepAt tokens n
