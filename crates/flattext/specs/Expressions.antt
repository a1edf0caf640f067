-- The texts of expressions (IEEE 1364-2005, 5, A.8). Parentheses stand where the text without them would be another
-- expression: around an operator that binds less than the place asks for.
use Rattle.std.specs.Prelude.{ℕ, ◌+◌, Bool, true, false, nat_lt, if◌then◌else◌, [], ◌++◌, codes, decimal}
use Rattle.logic4.specs.declared.digit.Extension.{Extension}
use Rattle.logic4.specs.declared.digit.Extension.TheVariants.{Zeros, Sign}
use Rattle.model.specs.declared.tree.BinaryOperator.{BinaryOperator}
use Rattle.model.specs.Syntax.{Text, Expression, Register, Select, Literal, Concat, Unary, Binary, Conditional, Extend, Expressions, Nothing, Also}
use Rattle.flattext.specs.Names.{name_text}
use Rattle.flattext.specs.Phrases.{literal_text}
use Rattle.flattext.specs.Operators.{unary_sign, binary_sign, takes_signs, conditional_level, binary_level, unary_level, primary_level}

-- an opening parenthesis, where there is one
abbrev pub opening_parenthesis : Bool → Text
opening_parenthesis true = codes "("
opening_parenthesis false = []

-- a closing parenthesis, where there is one
abbrev pub closing : Bool → Text
closing true = codes ")"
closing false = []

-- a bit of a register (5.2.1)
unfoldable pub select_text : Text → ℕ → Text
select_text name index = name_text name ++ (codes "[" ++ (decimal index ++ codes "]"))

-- what stands before an expression that is taken with its sign, where it is (5.5)
abbrev pub sign_opening : Bool → Text
sign_opening true = codes "$signed("
sign_opening false = []

-- what stands before the left operand of an operator
unfoldable pub operator_front : ℕ → BinaryOperator → Text
operator_front level op = opening_parenthesis (nat_lt (binary_level op) level) ++ sign_opening (takes_signs op)

-- what stands between the operands of an operator
unfoldable pub operator_middle : BinaryOperator → Text
operator_middle op = closing (takes_signs op) ++ ((codes " " ++ (binary_sign op ++ codes " ")) ++ sign_opening (takes_signs op))

-- what stands behind the right operand of an operator
unfoldable pub operator_back : ℕ → BinaryOperator → Text
operator_back level op = closing (takes_signs op) ++ closing (nat_lt (binary_level op) level)

-- how strongly an operand has to bind: so strongly, or not at all inside of the parentheses of `$signed`
abbrev pub operand_level : BinaryOperator → ℕ → ℕ
operand_level op level = if takes_signs op then conditional_level else level

-- What stands before and behind an expression that is extended to a size: it is chosen where a vector of that size could be chosen
-- too, which has a sign where the expression is taken with its sign (5.1.13, 5.5). The braces around it let its size be its own.
abbrev pub extension_front : Extension → Text
extension_front Zeros = codes "{1'b1 ? {"
extension_front Sign = codes "{1'b1 ? $signed("

abbrev pub extension_back : Extension → ℕ → Text
extension_back Zeros size = codes "} : " ++ (decimal size ++ codes "'d0}")
extension_back Sign size = codes ") : " ++ (decimal size ++ codes "'sd0}")

abbrev mutual
  -- an expression at a place that asks for one that binds so strongly. The operand of an operator before it is a primary
  -- (A.8.3). What stands left of an operator may be of its own level, since it groups to the left, and what stands right of
  -- it binds more (5.1.2). What stands behind a : may be a conditional again, which groups to the right (5.1.13).
  pub expression_text : ℕ → Expression Text → Text
  expression_text level (Register name) = name_text name
  expression_text level (Select name index) = select_text name index
  expression_text level (Literal v) = literal_text v
  expression_text level (Concat parts) = codes "{" ++ (parts_text parts ++ codes "}")
  expression_text level (Unary op e) =
      opening_parenthesis (nat_lt unary_level level) ++ (unary_sign op ++ (expression_text primary_level e ++ closing (nat_lt unary_level level)))
  expression_text level (Binary op e f) =
      operator_front level op
      ++ (expression_text (operand_level op (binary_level op)) e
      ++ (operator_middle op ++ (expression_text (operand_level op (binary_level op + 1)) f ++ operator_back level op)))
  expression_text level (Conditional c e f) =
      opening_parenthesis (nat_lt conditional_level level)
      ++ (expression_text (conditional_level + 1) c ++ (codes " ? " ++ (expression_text (conditional_level + 1) e ++ (codes " : " ++ (expression_text conditional_level f ++ closing (nat_lt conditional_level level))))))
  expression_text level (Extend by size e) = extension_front by ++ (expression_text conditional_level e ++ extension_back by size)

  -- expressions with a comma before each
  pub arguments_text : Expressions Text → Text
  arguments_text Nothing = []
  arguments_text (Also e es) = codes ", " ++ (expression_text conditional_level e ++ arguments_text es)

  -- expressions with commas between them
  pub parts_text : Expressions Text → Text
  parts_text Nothing = []
  parts_text (Also e es) = expression_text conditional_level e ++ arguments_text es
