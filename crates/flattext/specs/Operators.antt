-- The signs of operators, and how strongly they bind (IEEE 1364-2005, 5.1, 5.1.2).
use Rattle.std.specs.Prelude.{ℕ, Bool, true, false, codes}
use Rattle.model.specs.declared.tree.UnaryOperator.{UnaryOperator}
use Rattle.model.specs.declared.tree.UnaryOperator.TheVariants as un
use Rattle.model.specs.declared.tree.BinaryOperator.{BinaryOperator}
use Rattle.model.specs.declared.tree.BinaryOperator.TheVariants as bin
use Rattle.model.specs.Syntax.{Text}

-- the sign of an operator before its operand
abbrev pub unary_sign : UnaryOperator → Text
unary_sign un.LogicalNot = codes "!"
unary_sign un.Not = codes "~"
unary_sign un.ReduceAnd = codes "&"
unary_sign un.ReduceOr = codes "|"
unary_sign un.ReduceXor = codes "^"

-- the sign of an operator between its operands
abbrev pub binary_sign : BinaryOperator → Text
binary_sign bin.LogicalOr = codes "||"
binary_sign bin.LogicalAnd = codes "&&"
binary_sign bin.Or = codes "|"
binary_sign bin.Xor = codes "^"
binary_sign bin.And = codes "&"
binary_sign bin.Equal = codes "=="
binary_sign bin.NotEqual = codes "!="
binary_sign bin.CaseEqual = codes "==="
binary_sign bin.CaseNotEqual = codes "!=="
binary_sign bin.Less = codes "<"
binary_sign bin.LessEqual = codes "<="
binary_sign bin.Greater = codes ">"
binary_sign bin.GreaterEqual = codes ">="
binary_sign bin.SignedLess = codes "<"
binary_sign bin.SignedLessEqual = codes "<="
binary_sign bin.ShiftLeft = codes "<<"
binary_sign bin.ShiftRight = codes ">>"
binary_sign bin.Add = codes "+"
binary_sign bin.Subtract = codes "-"

-- whether an operator takes its operands as numbers with signs (5.5)
abbrev pub takes_signs : BinaryOperator → Bool
takes_signs bin.SignedLess = true
takes_signs bin.SignedLessEqual = true
takes_signs _ = false

-- how strongly ? : binds, the least of all
abbrev pub conditional_level : ℕ
conditional_level = 0

-- how strongly an operator between its operands binds, from the rows of table 5-4 (5.1.2)
abbrev pub binary_level : BinaryOperator → ℕ
binary_level bin.LogicalOr = 1
binary_level bin.LogicalAnd = 2
binary_level bin.Or = 3
binary_level bin.Xor = 4
binary_level bin.And = 5
binary_level bin.Equal = 6
binary_level bin.NotEqual = 6
binary_level bin.CaseEqual = 6
binary_level bin.CaseNotEqual = 6
binary_level bin.Less = 7
binary_level bin.LessEqual = 7
binary_level bin.Greater = 7
binary_level bin.GreaterEqual = 7
binary_level bin.SignedLess = 7
binary_level bin.SignedLessEqual = 7
binary_level bin.ShiftLeft = 8
binary_level bin.ShiftRight = 8
binary_level bin.Add = 9
binary_level bin.Subtract = 9

-- how strongly an operator before its operand binds
abbrev pub unary_level : ℕ
unary_level = 10

-- how strongly names, literals and what stands in brackets hold together (A.8.4)
abbrev pub primary_level : ℕ
primary_level = 11
