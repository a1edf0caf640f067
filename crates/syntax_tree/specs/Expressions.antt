-- Expressions as plain trees (IEEE 1364-2005, A.8), without the program's boxes and vectors.
use Rattle.std.specs.Prelude.{ℕ, Bool, List, [], ◌∷◌, map}
use Rattle.std.specs.Box.{box_value}
use Rattle.std.specs.declared.vec.Vec.{Vec}
use Rattle.std.specs.declared.alloc.Global.{Global}
use Rattle.logic4.specs.Vector.{Vector}
use Rattle.syntax_tree.specs.declared.expressions.VerilogUnaryOperator.{VerilogUnaryOperator}
use Rattle.syntax_tree.specs.declared.expressions.VerilogBinaryOperator.{VerilogBinaryOperator}
use Rattle.syntax_tree.specs.declared.expressions.PartForm.{PartForm}
use Rattle.syntax_tree.specs.declared.expressions.VerilogExpression as program
use Rattle.syntax_tree.specs.declared.expressions.VerilogExpression.{fold-VerilogExpression}
use Rattle.syntax_tree.specs.declared.expressions.VerilogExpression.TheOpen.{VerilogExpression-F}

mutual
  -- an expression, each node with the number of its token
  pub data Expression : Type 0 where
    Number : (at : ℕ) (sized signed cut : Bool) (digits : Vector) → Expression
    Real : (at : ℕ) (text : List ℕ) → Expression
    Text : (at : ℕ) (bytes : List ℕ) → Expression
    Name : (at : ℕ) (name : List ℕ) → Expression
    Member : (at : ℕ) (scope : Expression) (name : List ℕ) → Expression
    Index : (at : ℕ) (base index : Expression) → Expression
    Part : (at : ℕ) (form : PartForm) (base first second : Expression) → Expression
    Call : (at : ℕ) (function : Expression) (arguments : Expressions) → Expression
    SystemCall : (at : ℕ) (name : List ℕ) (arguments : Expressions) → Expression
    Concatenation : (at : ℕ) (parts : Expressions) → Expression
    Replication : (at : ℕ) (count : Expression) (parts : Expressions) → Expression
    Unary : (at : ℕ) (operator : VerilogUnaryOperator) (operand : Expression) → Expression
    Binary : (at : ℕ) (operator : VerilogBinaryOperator) (left right : Expression) → Expression
    Conditional : (at : ℕ) (condition first second : Expression) → Expression
    Refused : (at : ℕ) → Expression

  -- expressions in the order of the text
  pub data Expressions : Type 0 where
    Nothing : Expressions
    Also : (first : Expression) (others : Expressions) → Expressions

-- the expressions of a list, in its order
abbrev pub plain_expressions : List Expression → Expressions
plain_expressions [] = Nothing
plain_expressions (e ∷ es) = Also e (plain_expressions es)

-- one node of an expression, with each expression inside it already the plain one
abbrev pub plain_expression_node : VerilogExpression-F Expression → Expression
plain_expression_node (VerilogExpression-F.Number at sized signed cut digits) = Number at sized signed cut (box_value digits)
plain_expression_node (VerilogExpression-F.Real at text) = Real at text.items
plain_expression_node (VerilogExpression-F.Text at bytes) = Text at bytes.items
plain_expression_node (VerilogExpression-F.Name at name) = Name at name.items
plain_expression_node (VerilogExpression-F.Member at scope name) = Member at (box_value scope) name.items
plain_expression_node (VerilogExpression-F.Index at base index) = Index at (box_value base) (box_value index)
plain_expression_node (VerilogExpression-F.Part at form base first second) = Part at form (box_value base) (box_value first) (box_value second)
plain_expression_node (VerilogExpression-F.Call at function arguments) = Call at (box_value function) (plain_expressions arguments.items)
plain_expression_node (VerilogExpression-F.SystemCall at name arguments) = SystemCall at name.items (plain_expressions arguments.items)
plain_expression_node (VerilogExpression-F.Concatenation at parts) = Concatenation at (plain_expressions parts.items)
plain_expression_node (VerilogExpression-F.Replication at count parts) = Replication at (box_value count) (plain_expressions parts.items)
plain_expression_node (VerilogExpression-F.Unary at operator e) = Unary at operator (box_value e)
plain_expression_node (VerilogExpression-F.Binary at operator e f) = Binary at operator (box_value e) (box_value f)
plain_expression_node (VerilogExpression-F.Conditional at c e f) = Conditional at (box_value c) (box_value e) (box_value f)
plain_expression_node (VerilogExpression-F.Refused at) = Refused at

-- the plain tree of an expression
abbrev pub plain_expression_of : program.VerilogExpression → Expression
plain_expression_of = fold-VerilogExpression Expression plain_expression_node

-- the plain trees of a vector of expressions
abbrev pub plain_expressions_of : Vec program.VerilogExpression Global → List Expression
plain_expressions_of v = map plain_expression_of v.items
