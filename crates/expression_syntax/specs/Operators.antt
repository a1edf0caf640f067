-- Which operators signs are.
use Rattle.std.specs.Prelude.{ℕ, Option, Some, None}
use Rattle.lexemes.specs.declared.token.Sign.{Sign}
use Rattle.lexemes.specs.declared.token.Sign.TheVariants as sign
use Rattle.lexemes.specs.declared.token.TokenKind.{TokenKind}
use Rattle.lexemes.specs.declared.token.TokenKind.TheVariants as k
use Rattle.syntax_tree.specs.declared.expressions.VerilogBinaryOperator.{VerilogBinaryOperator}
use Rattle.syntax_tree.specs.declared.expressions.VerilogBinaryOperator.TheVariants as binary
use Rattle.syntax_tree.specs.declared.expressions.VerilogUnaryOperator.{VerilogUnaryOperator}
use Rattle.syntax_tree.specs.declared.expressions.VerilogUnaryOperator.TheVariants as unary
use Rattle.syntax_tree.specs.declared.expressions.PartForm.{PartForm}
use Rattle.syntax_tree.specs.declared.expressions.PartForm.TheVariants as part
use Rattle.expression_syntax.specs.declared.operators.PrimaryForm.{PrimaryForm}
use Rattle.expression_syntax.specs.declared.operators.PrimaryForm.TheVariants as primary

-- The binary operator that a sign is, and its level: the greater, the tighter it binds (5.1.2, table 5-4).
abbrev pub binary_of_sign : Sign → Option (ℕ × VerilogBinaryOperator)
binary_of_sign sign.OrOr = Some (1, binary.LogicalOr)
binary_of_sign sign.AndAnd = Some (2, binary.LogicalAnd)
binary_of_sign sign.Bar = Some (3, binary.BitwiseOr)
binary_of_sign sign.Caret = Some (4, binary.BitwiseXor)
binary_of_sign sign.CaretTilde = Some (4, binary.BitwiseXnor)
binary_of_sign sign.TildeCaret = Some (4, binary.BitwiseXnor)
binary_of_sign sign.Ampersand = Some (5, binary.BitwiseAnd)
binary_of_sign sign.Equal = Some (6, binary.Equal)
binary_of_sign sign.NotEqual = Some (6, binary.NotEqual)
binary_of_sign sign.Same = Some (6, binary.CaseEqual)
binary_of_sign sign.NotSame = Some (6, binary.CaseNotEqual)
binary_of_sign sign.Less = Some (7, binary.Less)
binary_of_sign sign.AtMost = Some (7, binary.LessEqual)
binary_of_sign sign.Greater = Some (7, binary.Greater)
binary_of_sign sign.AtLeast = Some (7, binary.GreaterEqual)
binary_of_sign sign.ShiftLeft = Some (8, binary.ShiftLeft)
binary_of_sign sign.ShiftRight = Some (8, binary.ShiftRight)
binary_of_sign sign.ShiftLeftArithmetic = Some (8, binary.ArithmeticShiftLeft)
binary_of_sign sign.ShiftRightArithmetic = Some (8, binary.ArithmeticShiftRight)
binary_of_sign sign.Plus = Some (9, binary.Add)
binary_of_sign sign.Minus = Some (9, binary.Subtract)
binary_of_sign sign.Star = Some (10, binary.Multiply)
binary_of_sign sign.Slash = Some (10, binary.Divide)
binary_of_sign sign.Percent = Some (10, binary.Modulus)
binary_of_sign sign.StarStar = Some (11, binary.Power)
binary_of_sign _ = None

-- The binary operator that a token is, and its level.
abbrev pub binary_operator : Option TokenKind → Option (ℕ × VerilogBinaryOperator)
binary_operator (Some (k.Sign s)) = binary_of_sign s
binary_operator _ = None

-- How many levels binary operators have.
abbrev pub binary_levels : ℕ
binary_levels = 11

-- The unary operator that a sign is (5.1).
abbrev pub unary_of_sign : Sign → Option VerilogUnaryOperator
unary_of_sign sign.Plus = Some unary.Plus
unary_of_sign sign.Minus = Some unary.Minus
unary_of_sign sign.Bang = Some unary.LogicalNot
unary_of_sign sign.Tilde = Some unary.BitwiseNot
unary_of_sign sign.Ampersand = Some unary.ReductionAnd
unary_of_sign sign.TildeAmpersand = Some unary.ReductionNand
unary_of_sign sign.Bar = Some unary.ReductionOr
unary_of_sign sign.TildeBar = Some unary.ReductionNor
unary_of_sign sign.Caret = Some unary.ReductionXor
unary_of_sign sign.TildeCaret = Some unary.ReductionXnor
unary_of_sign sign.CaretTilde = Some unary.ReductionXnor
unary_of_sign _ = None

-- The unary operator that a token is.
abbrev pub unary_operator : Option TokenKind → Option VerilogUnaryOperator
unary_operator (Some (k.Sign s)) = unary_of_sign s
unary_operator _ = None

-- The form of a part select by the sign between its two expressions (5.2.1).
abbrev pub part_sign : Sign → Option PartForm
part_sign sign.Colon = Some part.Constant
part_sign sign.PlusColon = Some part.Upward
part_sign sign.MinusColon = Some part.Downward
part_sign _ = None

-- The form of a part select by the token between its two expressions.
abbrev pub part_form : Option TokenKind → Option PartForm
part_form (Some (k.Sign s)) = part_sign s
part_form _ = None

-- What an operand is that begins with a sign.
abbrev pub bracket_form : Sign → PrimaryForm
bracket_form sign.OpenCurly = primary.Braces
bracket_form sign.Open = primary.Parentheses
bracket_form _ = primary.Nothing

-- What an operand is whose first token is of a kind (A.8.4).
abbrev pub operand_form : TokenKind → PrimaryForm
operand_form k.UnsignedNumber = primary.Number
operand_form k.Base = primary.Based
operand_form k.RealNumber = primary.Real
operand_form k.Text = primary.Text
operand_form k.Name = primary.Name
operand_form k.EscapedName = primary.Name
operand_form k.SystemName = primary.SystemName
operand_form (k.Sign s) = bracket_form s
operand_form _ = primary.Nothing

-- What an operand is, by its first token.
abbrev pub primary_form : Option TokenKind → PrimaryForm
primary_form None = primary.Nothing
primary_form (Some found) = operand_form found
