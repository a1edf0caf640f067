-- How deep a text nests. Two numbers are counted at each token: how many blocks, parentheses and curly brackets are open,
-- and how many operators stand since the last `;`, `begin` or `end`.
use Rattle.std.specs.Prelude.{◌≡◌, ℕ, suc, ◌+◌, ◌-◌, ◌<◌, [], ◌∷◌, length, take, Bool, true, false, ◌||◌, nat_lt, if◌then◌else◌, Option, Some, None}
use Rattle.tokens.specs.declared.token.Kind.{Kind}
use Rattle.tokens.specs.declared.token.Kind.TheVariants as k
use Rattle.tokens.specs.Tokens.{PlainTokens}

-- The greatest that each of the two numbers may be.
abbrev pub limit : ℕ
limit = 64

-- How many `begin`, ( and { are open after a token, by how many were before it.
abbrev pub open_after : Kind → ℕ → ℕ
open_after k.Begin height = height + 1
open_after k.Open height = height + 1
open_after k.OpenCurly height = height + 1
open_after k.EndBlock height = height - 1
open_after k.Close height = height - 1
open_after k.CloseCurly height = height - 1
open_after _ height = height

-- How many # @ ? and operators stand since the last `;`, `begin` or `end`, by how many did before a token.
abbrev pub signs_after : Kind → ℕ → ℕ
signs_after k.Semicolon signs = 0
signs_after k.Begin signs = 0
signs_after k.EndBlock signs = 0
signs_after k.Hash signs = signs + 1
signs_after k.At signs = signs + 1
signs_after k.Question signs = signs + 1
signs_after k.Bang signs = signs + 1
signs_after k.Tilde signs = signs + 1
signs_after k.Ampersand signs = signs + 1
signs_after k.Bar signs = signs + 1
signs_after k.Caret signs = signs + 1
signs_after k.Plus signs = signs + 1
signs_after k.Minus signs = signs + 1
signs_after k.ShiftLeft signs = signs + 1
signs_after k.ShiftRight signs = signs + 1
signs_after k.Less signs = signs + 1
signs_after k.AtMost signs = signs + 1
signs_after k.Greater signs = signs + 1
signs_after k.AtLeast signs = signs + 1
signs_after k.Equal signs = signs + 1
signs_after k.NotEqual signs = signs + 1
signs_after k.Same signs = signs + 1
signs_after k.NotSame signs = signs + 1
signs_after k.AndAnd signs = signs + 1
signs_after k.OrOr signs = signs + 1
signs_after _ signs = signs

-- Whether one of the two numbers passes the limit at some token.
abbrev pub passes : ℕ → ℕ → PlainTokens → Bool
passes height signs [] = false
passes height signs (t ∷ ts) =
    nat_lt limit (open_after t.kind height) || nat_lt limit (signs_after t.kind signs) || passes (open_after t.kind height) (signs_after t.kind signs) ts

-- The tokens of a text nest deeper than the limit.
abbrev pub IsDeep : PlainTokens → Type 0
IsDeep ts = passes 0 0 ts ≡ true

-- The tokens nest too deep up to the token of this number, counted from 1, and not up to any token before it.
abbrev pub IsDeepAt : PlainTokens → ℕ → Type 0
IsDeepAt ts n = IsDeep (take n ts) × ((k : ℕ) → k < n → ¬ (IsDeep (take k ts)))

-- How many tokens are left at the first one at which one of the two numbers passes the limit: what the parser computes.
abbrev pub deep_left : ℕ → ℕ → PlainTokens → Option ℕ
deep_left height signs [] = None
deep_left height signs (t ∷ ts) =
    if nat_lt limit (open_after t.kind height) || nat_lt limit (signs_after t.kind signs) then Some (suc (length ts))
    else deep_left (open_after t.kind height) (signs_after t.kind signs) ts
