-- The plain tree that a tree of the program stands for: the same forms, without the program's boxes and vectors.
use Rattle.std.specs.Prelude.{List, [], ◌∷◌, map, string_bytes}
use Rattle.std.specs.Box.{box_value}
use Rattle.model.specs.declared.tree.Module as program
use Rattle.model.specs.declared.tree.Declaration as declaration
use Rattle.model.specs.declared.tree.SourceProcess as process
use Rattle.model.specs.declared.tree.EventExpression as event
use Rattle.model.specs.declared.tree.SourceExpression as expression
use Rattle.model.specs.declared.tree.SourceExpression.{fold-SourceExpression}
use Rattle.model.specs.declared.tree.SourceExpression.TheOpen.{SourceExpression-F}
use Rattle.model.specs.declared.tree.SourceStatement as statement
use Rattle.model.specs.declared.tree.SourceStatement.{fold-SourceStatement}
use Rattle.model.specs.declared.tree.SourceStatement.TheOpen.{SourceStatement-F}
use Rattle.model.specs.declared.tree.Change.{Change}
use Rattle.model.specs.declared.tree.Piece as piece
use Rattle.model.specs.declared.tree.Piece.TheVariants as pieces
use Rattle.model.specs.Syntax.{Text, Expression, Register, Select, Literal, Concat, Unary, Binary, Conditional, Extend, Expressions, Nothing, Also, Piece, Byte, Argument, SourceStatement, Empty, Block, Assign, AssignLater, Now, Delay, Await, If, IfElse, While, Print, PrintPieces, Finish, SourceStatements, End, Then, Declaration, SourceProcess, Module}

-- the expressions of a list, in its order
abbrev pub source_expressions : List (Expression Text) → Expressions Text
source_expressions [] = Nothing
source_expressions (e ∷ es) = Also e (source_expressions es)

-- the statements of a list, in its order
abbrev pub source_statements : List SourceStatement → SourceStatements
source_statements [] = End
source_statements (s ∷ ss) = Then s (source_statements ss)

-- one node of an expression, with each expression inside it already the plain one
abbrev pub source_expression_node : SourceExpression-F (Expression Text) → Expression Text
source_expression_node (SourceExpression-F.Name name) = Register (string_bytes name)
source_expression_node (SourceExpression-F.Select name i) = Select (string_bytes name) i
source_expression_node (SourceExpression-F.Literal v) = Literal v
source_expression_node (SourceExpression-F.Concat first others) = Concat (Also (box_value first) (source_expressions others.items))
source_expression_node (SourceExpression-F.Unary op e) = Unary op (box_value e)
source_expression_node (SourceExpression-F.Binary op e f) = Binary op (box_value e) (box_value f)
source_expression_node (SourceExpression-F.Conditional c e f) = Conditional (box_value c) (box_value e) (box_value f)
source_expression_node (SourceExpression-F.Extend by size e) = Extend by size (box_value e)

-- the plain tree of an expression
abbrev pub source_expression_of : expression.SourceExpression → Expression Text
source_expression_of = fold-SourceExpression (Expression Text) source_expression_node

-- an event as which change, and of which name
abbrev pub source_trigger_of : event.EventExpression → Change × Text
source_trigger_of e = (e.change, string_bytes e.name)

-- a piece of a format
abbrev pub piece_of : piece.Piece → Piece
piece_of (pieces.Byte b) = Byte b
piece_of (pieces.Argument c) = Argument c

-- one node of a statement, with each statement inside it already the plain one
abbrev pub source_statement_node : SourceStatement-F SourceStatement → SourceStatement
source_statement_node SourceStatement-F.Empty = Empty
source_statement_node (SourceStatement-F.Block body) = Block (source_statements body.items)
source_statement_node (SourceStatement-F.Assign name delay e) = Assign (string_bytes name) delay (source_expression_of e)
source_statement_node (SourceStatement-F.AssignLater name delay e) = AssignLater (string_bytes name) delay (source_expression_of e)
source_statement_node (SourceStatement-F.Now name) = Now (string_bytes name)
source_statement_node (SourceStatement-F.Delay delay s) = Delay delay (box_value s)
source_statement_node (SourceStatement-F.Await events s) = Await (map source_trigger_of events.items) (box_value s)
source_statement_node (SourceStatement-F.If c body) = If (source_expression_of c) (source_statements body.items)
source_statement_node (SourceStatement-F.IfElse c body other) = IfElse (source_expression_of c) (source_statements body.items) (source_statements other.items)
source_statement_node (SourceStatement-F.While c body) = While (source_expression_of c) (source_statements body.items)
source_statement_node (SourceStatement-F.Print task format arguments) = Print task format.items (source_expressions (map source_expression_of arguments.items))
source_statement_node (SourceStatement-F.PrintPieces task format arguments) = PrintPieces task (map piece_of format.items) (source_expressions (map source_expression_of arguments.items))
source_statement_node SourceStatement-F.Finish = Finish

-- the plain tree of a statement
abbrev pub source_statement_of : statement.SourceStatement → SourceStatement
source_statement_of = fold-SourceStatement SourceStatement source_statement_node

-- a declaration with its names as bytes
abbrev pub declaration_of : declaration.Declaration → Declaration
declaration_of d = record { range = d.range; names = map string_bytes d.names.items }

-- a process with its body as a plain tree
abbrev pub source_process_of : process.SourceProcess → SourceProcess
source_process_of p = record { repeats = p.repeats; body = source_statement_of p.body }

-- the plain tree of a module
abbrev pub module_of : program.Module → Module
module_of m =
    record {
      name = string_bytes m.name;
      declarations = map declaration_of m.regs.items;
      processes = map source_process_of m.procs.items;
    }
