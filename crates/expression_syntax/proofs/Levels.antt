-- What stands left of an operator is of its level.
use Rattle.std.proofs.Common.{◌≡◌, ℕ, zero, suc, ◌+◌, ◌≤◌, ◌<◌, ◌-◌, Some, subst, arith}
use Rattle.syntax_tree.specs.declared.expressions.VerilogBinaryOperator.{VerilogBinaryOperator}
use Rattle.syntax_tree.specs.Expressions as tree
use Rattle.syntax_tree.specs.Expressions.{Expression}
use Rattle.expression_syntax.specs.declared.texts.TokenSource.{TokenSource}
use Rattle.expression_syntax.specs.Attributes.{tokens_of, AreAttributes}
use Rattle.expression_syntax.specs.Places.{kind_at, behind}
use Rattle.expression_syntax.specs.Operators.{binary_operator}
use Rattle.expression_syntax.specs.ExpressionGrammar.{IsUnary, IsBinary, operand, tighter, joined, EndsLevel}

-- an expression of a level is one of each looser level
pub looser : (s : TokenSource) (e : Expression) (a b n level top : ℕ) → top ≡ level + n → IsBinary s top e a b → IsBinary s level e a b
looser s e a b zero level top h is = let q : top ≡ level = omega (arith, h) in subst (λ (k : ℕ). IsBinary s k e a b) q is
looser s e a b (suc n) level top h is = tighter (looser s e a b n (suc level) top (omega (arith, h)) is)

pub loose : (s : TokenSource) (e : Expression) (a b level top : ℕ) → level ≤ top → IsBinary s top e a b → IsBinary s level e a b
loose s e a b level top h is = looser s e a b (top - level) level top (omega (arith, h)) is

-- an expression is of a level, and of that of the operator that follows it
abbrev pub IsReady : TokenSource → ℕ → Expression → ℕ → ℕ → Type 0
IsReady s level e a b =
    IsBinary s level e a b
    × ((found : ℕ × VerilogBinaryOperator) → binary_operator (kind_at (tokens_of s) b) ≡ Some found → level ≤ found.0 → found.0 ≤ 12 → IsBinary s found.0 e a b)

pub ready_first : (s : TokenSource) (level : ℕ) (e : Expression) (a b : ℕ) → IsUnary s e a b → level ≤ 12 → IsReady s level e a b
ready_first s level e a b is h = (loose s e a b level 12 h (operand is), λ found o l w. loose s e a b found.0 12 w (operand is))

pub ready_joined : (s : TokenSource) (level : ℕ) (l r : Expression) (a q m b : ℕ) (found : ℕ × VerilogBinaryOperator) → IsReady s level l a q
    → binary_operator (kind_at (tokens_of s) q) ≡ Some found → level ≤ found.0 → found.0 ≤ 11 → AreAttributes s (behind (tokens_of s) q) m
    → IsBinary s (suc found.0) r m b → EndsLevel (suc found.0) (kind_at (tokens_of s) b)
    → IsReady s level (tree.Binary q found.1 l r) a b
ready_joined s level l r a q m b found ready o h w skipped right stops =
    let whole : IsBinary s found.0 (tree.Binary q found.1 l r) a b = joined (ready.1 found o h (omega (arith, w))) o skipped right in
    (loose s _ a b level found.0 h whole, λ next p i v. loose s _ a b next.0 found.0 (let j : next.0 < suc found.0 = stops next p in omega (arith, j)) whole)
