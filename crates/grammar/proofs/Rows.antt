-- Worked examples of what tokens spell.
use Rattle.std.specs.Prelude.{ℕ, List, [], ◌∷◌, None, codes, refl}
use Rattle.model.specs.declared.tree.UnaryOperator.TheVariants.{ReduceAnd}
use Rattle.model.specs.declared.tree.BinaryOperator.TheVariants.{And, LessEqual, Subtract}
use Rattle.model.specs.declared.tree.Task.TheVariants.{Strobe}
use Rattle.model.specs.Syntax.{Text, Expression, Register, Unary, Binary, Also, Nothing, AssignLater, Print}
use Rattle.tokens.specs.declared.token.Kind.{Kind}
use Rattle.tokens.specs.declared.token.Kind.TheVariants as k
use Rattle.tokens.specs.Tokens.{PlainToken, PlainTokens}
use Rattle.grammar.specs.Grammar.{plain, IsBinary, operand, tighter, joined, IsUnary, bare, prefixed, named, no_delay, no_argument, one_argument, IsStatement, assigned_later, printed, IsModule, spelled, no_items}

abbrev token : Kind → List ℕ → PlainToken
token kind text = record { kind = kind; text = text; value = 0; bits = None }

abbrev a : PlainToken
a = token k.Name (codes "a")

abbrev b : PlainToken
b = token k.Name (codes "b")

abbrev c : PlainToken
c = token k.Name (codes "c")

-- an operand as an expression of level 8, 6 and 5
eight : {e : Expression Text} {ts rest : PlainTokens} → IsUnary e ts rest → IsBinary 8 e ts rest
eight d = tighter (tighter (operand d))

six : {e : Expression Text} {ts rest : PlainTokens} → IsUnary e ts rest → IsBinary 6 e ts rest
six d = tighter (tighter (eight d))

five : {e : Expression Text} {ts rest : PlainTokens} → IsUnary e ts rest → IsBinary 5 e ts rest
five d = tighter (six d)

-- b & &b
and_of_reduction : (rest : PlainTokens) → IsBinary 5 (Binary And (Register (codes "b")) (Unary ReduceAnd (Register (codes "b"))))
    (b ∷ token k.Ampersand (codes "&") ∷ token k.Ampersand (codes "&") ∷ b ∷ rest) rest
and_of_reduction rest = joined (five (bare (named refl))) refl (six (prefixed refl (named refl)))

-- a - b - c is (a - b) - c
left_to_right : (rest : PlainTokens) → IsBinary 9 (Binary Subtract (Binary Subtract (Register (codes "a")) (Register (codes "b"))) (Register (codes "c")))
    (a ∷ token k.Minus (codes "-") ∷ b ∷ token k.Minus (codes "-") ∷ c ∷ rest) rest
left_to_right rest =
    joined (joined (tighter (operand (bare (named refl)))) refl (operand (bare (named refl)))) refl (operand (bare (named refl)))

-- in a <= b <= c ; the first sign assigns and the second compares
two_signs : (rest : PlainTokens) → IsStatement (AssignLater (codes "a") None (Binary LessEqual (Register (codes "b")) (Register (codes "c"))))
    (a ∷ token k.AtMost (codes "<=") ∷ b ∷ token k.AtMost (codes "<=") ∷ c ∷ token k.Semicolon (codes ";") ∷ rest) rest
two_signs rest = assigned_later refl refl no_delay (plain (looser compared)) refl
  where
    compared : IsBinary 7 (Binary LessEqual (Register (codes "b")) (Register (codes "c"))) (b ∷ token k.AtMost (codes "<=") ∷ c ∷ token k.Semicolon (codes ";") ∷ rest) (token k.Semicolon (codes ";") ∷ rest)
    compared = joined (tighter (eight (bare (named refl)))) refl (eight (bare (named refl)))

    looser : {e : Expression Text} {ts us : PlainTokens} → IsBinary 7 e ts us → IsBinary 1 e ts us
    looser d = tighter (tighter (tighter (tighter (tighter (tighter d)))))

-- $strobe("s", a);
one_strobe : (rest : PlainTokens) → IsStatement (Print Strobe (codes "s") (Also (Register (codes "a")) Nothing))
    (token k.Strobe (codes "$strobe") ∷ token k.Open (codes "(") ∷ token k.Text (34 ∷ 115 ∷ 34 ∷ []) ∷ token k.Comma (codes ",") ∷ a ∷ token k.Close (codes ")") ∷ token k.Semicolon (codes ";") ∷ rest) rest
one_strobe rest = printed refl refl refl (one_argument refl (plain (one (bare (named refl)))) (no_argument refl)) refl
  where
    one : {e : Expression Text} {ts us : PlainTokens} → IsUnary e ts us → IsBinary 1 e ts us
    one d = tighter (tighter (tighter (tighter (five d))))

-- module t; endmodule
empty_module : IsModule (record { name = codes "t"; declarations = []; processes = [] })
    (token k.Module (codes "module") ∷ token k.Name (codes "t") ∷ token k.Semicolon (codes ";") ∷ token k.EndModule (codes "endmodule") ∷ [])
empty_module = spelled refl refl refl no_items refl
