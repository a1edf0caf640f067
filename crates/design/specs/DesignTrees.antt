-- The design of the definitions that a tree of the program stands for: the same forms, without boxes and vectors.
use Rattle.std.specs.Prelude.{ℕ, List, [], ◌∷◌, map}
use Rattle.std.specs.Box.{box_value}
use Rattle.model.specs.Syntax.{Register, Select, Literal, Concat, Unary, Binary, Conditional, Extend, Expressions, Nothing, Also}
use Rattle.model.specs.SourceTrees.{piece_of}
use Rattle.model.specs.Syntax as syntax
use Rattle.model.specs.Design as model
use Rattle.model.specs.Design.{Empty, Assign, AssignAfter, AssignLater, Now, Delay, Await, If, While, Print, Finish, Statements, End, Then}
use Rattle.design.specs.declared.tree.Expression as expression
use Rattle.design.specs.declared.tree.Expression.{fold-Expression}
use Rattle.design.specs.declared.tree.Expression.TheOpen.{Expression-F}
use Rattle.design.specs.declared.tree.Statement as statement
use Rattle.design.specs.declared.tree.Statement.{fold-Statement}
use Rattle.design.specs.declared.tree.Statement.TheOpen.{Statement-F}
use Rattle.design.specs.declared.tree.Process as process

-- the expressions of a list, in its order
abbrev pub expressions : List (syntax.Expression ℕ) → Expressions ℕ
expressions [] = Nothing
expressions (e ∷ es) = Also e (expressions es)

-- the statements of a list, in its order
abbrev pub statements : List model.Statement → Statements
statements [] = End
statements (s ∷ ss) = Then s (statements ss)

-- one node of an expression, with each expression inside it already the plain one
abbrev pub expression_node : Expression-F (syntax.Expression ℕ) → syntax.Expression ℕ
expression_node (Expression-F.Register r) = Register r
expression_node (Expression-F.Select r i) = Select r i
expression_node (Expression-F.Literal v) = Literal v
expression_node (Expression-F.Concat parts) = Concat (expressions parts.items)
expression_node (Expression-F.Unary op e) = Unary op (box_value e)
expression_node (Expression-F.Binary op e f) = Binary op (box_value e) (box_value f)
expression_node (Expression-F.Conditional c e f) = Conditional (box_value c) (box_value e) (box_value f)
expression_node (Expression-F.Extend by size e) = Extend by size (box_value e)

-- the plain tree of an expression
abbrev pub expression_of : expression.Expression → syntax.Expression ℕ
expression_of = fold-Expression (syntax.Expression ℕ) expression_node

-- the plain trees of expressions, in their order
abbrev pub expressions_of : List expression.Expression → Expressions ℕ
expressions_of es = expressions (map expression_of es)

-- one node of a statement, with each statement inside it already the plain one
abbrev pub statement_node : Statement-F model.Statement → model.Statement
statement_node Statement-F.Empty = Empty
statement_node (Statement-F.Assign r e) = Assign r (expression_of e)
statement_node (Statement-F.AssignAfter r delay e) = AssignAfter r delay (expression_of e)
statement_node (Statement-F.AssignLater r delay e) = AssignLater r delay (expression_of e)
statement_node (Statement-F.Now r) = Now r
statement_node (Statement-F.Delay delay body) = Delay delay (statements body.items)
statement_node (Statement-F.Await triggers body) = Await triggers.items (statements body.items)
statement_node (Statement-F.If c body otherwise) = If (expression_of c) (statements body.items) (statements otherwise.items)
statement_node (Statement-F.While c body) = While (expression_of c) (statements body.items)
statement_node (Statement-F.Print task format arguments) = Print task (map piece_of format.items) (expressions_of arguments.items)
statement_node Statement-F.Finish = Finish

-- the plain tree of a statement
abbrev pub statement_of : statement.Statement → model.Statement
statement_of = fold-Statement model.Statement statement_node

-- the plain trees of statements, in their order
abbrev pub statements_of : List statement.Statement → Statements
statements_of ss = statements (map statement_of ss)

-- the process of the definitions
abbrev pub process_of : process.Process → model.Process
process_of p = record { repeats = p.repeats; body = statements_of p.body.items }

-- the design of the definitions, from the widths of the registers and the processes
abbrev pub tree_design : List ℕ → List process.Process → model.Design
tree_design widths processes = record { widths = widths; processes = map process_of processes }
