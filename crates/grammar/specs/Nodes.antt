-- Lists of the nodes of a source tree, as the parser gathers them.
use Rattle.std.specs.Prelude.{ℕ, List, map, Bool, true, false, Option, string_bytes}
use Rattle.std.specs.declared.vec.Vec.{Vec}
use Rattle.std.specs.declared.string.String.{String}
use Rattle.std.specs.declared.alloc.Global.{Global}
use Rattle.model.specs.declared.tree.Change.{Change}
use Rattle.model.specs.declared.tree.EventExpression as program_event
use Rattle.model.specs.declared.tree.SourceExpression as program_expression
use Rattle.model.specs.declared.tree.SourceStatement as program_statement
use Rattle.model.specs.Syntax.{Text, Expression, SourceStatement, Assign, AssignLater}
use Rattle.model.specs.SourceTrees.{source_expression_of, source_trigger_of, source_statement_of}

-- A nonblocking assignment, or a blocking one.
abbrev pub parsed_assign : Bool → Text → Option ℕ → Expression Text → SourceStatement
parsed_assign true name delay value = AssignLater name delay value
parsed_assign false name delay value = Assign name delay value

-- An event: which change, and of which name.
abbrev pub SourceTrigger : Type 0
SourceTrigger = Change × Text

-- The plain trees of a vector of expressions.
abbrev pub expressions_view : Vec program_expression.SourceExpression Global → List (Expression Text)
expressions_view v = map source_expression_of v.items

-- The events of a vector.
abbrev pub triggers_view : Vec program_event.EventExpression Global → List SourceTrigger
triggers_view v = map source_trigger_of v.items

-- The plain trees of a vector of statements.
abbrev pub statements_view : Vec program_statement.SourceStatement Global → List SourceStatement
statements_view v = map source_statement_of v.items

-- The bytes of each name of a vector.
abbrev pub names_view : Vec (String Global) Global → List Text
names_view v = map string_bytes v.items
