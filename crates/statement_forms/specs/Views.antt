-- Lists of the core's nodes, as the program gathers them.
use Rattle.std.specs.Prelude.{List, map}
use Rattle.std.specs.declared.vec.Vec.{Vec}
use Rattle.std.specs.declared.alloc.Global.{Global}
use Rattle.model.specs.declared.tree.Change.{Change}
use Rattle.model.specs.declared.tree.EventExpression as program_event
use Rattle.model.specs.declared.tree.SourceExpression as program_expression
use Rattle.model.specs.declared.tree.SourceStatement as program_statement
use Rattle.model.specs.Syntax.{Text, Expression, SourceStatement}
use Rattle.model.specs.SourceTrees.{source_expression_of, source_trigger_of, source_statement_of}

-- an event: which change, and of which name
abbrev pub NamedTrigger : Type 0
NamedTrigger = Change × Text

-- the plain trees of a vector of expressions
abbrev pub core_expressions : Vec program_expression.SourceExpression Global → List (Expression Text)
core_expressions v = map source_expression_of v.items

-- the events of a vector
abbrev pub core_triggers : Vec program_event.EventExpression Global → List NamedTrigger
core_triggers v = map source_trigger_of v.items

-- the plain trees of a vector of statements
abbrev pub core_statements : Vec program_statement.SourceStatement Global → List SourceStatement
core_statements v = map source_statement_of v.items
