-- The texts of statements (IEEE 1364-2005, 9, 17.1, 17.4, A.6). A statement begins in a line at some depth, and ends with
-- that line or with the line of its last `end`.
use Rattle.std.specs.Prelude.{ℕ, Bool, true, false, List, [], ◌∷◌, ◌++◌, Option, Some, None, codes, decimal}
use Rattle.model.specs.declared.tree.Change.{Change}
use Rattle.model.specs.declared.tree.Change.TheVariants.{Any, Posedge, Negedge}
use Rattle.model.specs.declared.tree.Task.{Task}
use Rattle.model.specs.declared.tree.Task.TheVariants.{Display, Strobe, Write}
use Rattle.model.specs.Syntax.{Text, Piece, Expression, Expressions, SourceStatement, Empty, Block, Assign, AssignLater, Now, Delay, Await, If, IfElse, While, Print, PrintPieces, Finish, SourceStatements, End, Then}
use Rattle.flattext.specs.Formats.{quoted_format, shown_arguments}
use Rattle.flattext.specs.Names.{name_text}
use Rattle.flattext.specs.Phrases.{indent, deeper, string_literal_text}
use Rattle.flattext.specs.Operators.{conditional_level}
use Rattle.flattext.specs.Expressions.{expression_text, arguments_text}

-- a delay and a space behind it (9.7.1)
abbrev pub delay_text : ℕ → Text
delay_text delay = codes "#" ++ (decimal delay ++ codes " ")

-- a delay, where there is one (9.7.7)
abbrev pub given_delay_text : Option ℕ → Text
given_delay_text None = []
given_delay_text (Some delay) = delay_text delay

-- an assignment with its sign (9.2)
unfoldable pub assign_text : Text → Text → Option ℕ → Expression Text → Text
assign_text name sign delay e = name_text name ++ (sign ++ (given_delay_text delay ++ (expression_text conditional_level e ++ codes ";\n")))

-- an assignment of the time (17.7.1)
unfoldable pub now_text : Text → Text
now_text name = name_text name ++ codes " = $time;\n"

-- which change is waited for (9.7.2)
abbrev pub event_change_text : Change → Text
event_change_text Any = []
event_change_text Posedge = codes "posedge "
event_change_text Negedge = codes "negedge "

-- an event
abbrev pub trigger_text : Change × Text → Text
trigger_text t = event_change_text t.0 ++ name_text t.1

-- events with the word `or` before each (9.7.4)
abbrev pub other_triggers_text : List (Change × Text) → Text
other_triggers_text [] = []
other_triggers_text (t ∷ ts) = codes " or " ++ (trigger_text t ++ other_triggers_text ts)

-- events with the word `or` between them
abbrev pub triggers_text : List (Change × Text) → Text
triggers_text [] = []
triggers_text (t ∷ ts) = trigger_text t ++ other_triggers_text ts

-- an event control and a space behind it (9.7.2)
unfoldable pub control_text : List (Change × Text) → Text
control_text triggers = codes "@(" ++ (triggers_text triggers ++ codes ") ")

-- what stands before a condition, the condition, and a parenthesis and a space behind it (9.4, 9.6)
unfoldable pub condition_text : Text → Expression Text → Text
condition_text word c = word ++ (expression_text conditional_level c ++ codes ") ")

-- the name of a task that prints (17.1)
abbrev pub task_text : Task → Text
task_text Display = codes "$display("
task_text Strobe = codes "$strobe("
task_text Write = codes "$write("

-- a call of such a task
unfoldable pub print_text : Task → Text → Expressions Text → Text
print_text task format arguments = task_text task ++ (string_literal_text format ++ (arguments_text arguments ++ codes ");\n"))

-- a call of such a task whose format is given by its pieces
unfoldable pub print_pieces_text : Task → List Piece → Expressions Text → Text
print_pieces_text task pieces arguments = task_text task ++ (quoted_format pieces ++ (shown_arguments pieces arguments ++ codes ");\n"))

-- lines between `begin` and `end`, and what stands behind that (9.8.1)
unfoldable pub block_text : ℕ → Text → Text → Text
block_text depth lines behind = codes "begin\n" ++ (lines ++ (indent depth ++ (codes "end" ++ behind)))

-- the statement that does nothing: a ; behind the control of a delay or of events, and elsewhere, where none may stand
-- alone, an empty block (A.6.4, A.6.5)
abbrev pub null_text : ℕ → Bool → Text
null_text depth true = codes ";\n"
null_text depth false = block_text depth [] (codes "\n")

abbrev mutual
  -- a statement whose first line stands at a depth, from where that line's spaces end, behind a control or not. The bodies of
  -- `if`, `else` and `while` are blocks, so that an `else` belongs to the `if` that it is printed for (9.4).
  pub statement_text : ℕ → Bool → SourceStatement → Text
  statement_text depth controlled Empty = null_text depth controlled
  statement_text depth controlled (Block body) = block_text depth (statements_text (deeper depth) body) (codes "\n")
  statement_text depth controlled (Assign name delay e) = assign_text name (codes " = ") delay e
  statement_text depth controlled (AssignLater name delay e) = assign_text name (codes " <= ") delay e
  statement_text depth controlled (Now name) = now_text name
  statement_text depth controlled (Delay delay s) = delay_text delay ++ statement_text depth true s
  statement_text depth controlled (Await triggers s) = control_text triggers ++ statement_text depth true s
  statement_text depth controlled (If c body) = condition_text (codes "if (") c ++ block_text depth (statements_text (deeper depth) body) (codes "\n")
  statement_text depth controlled (IfElse c body otherwise) =
      condition_text (codes "if (") c
      ++ (block_text depth (statements_text (deeper depth) body) (codes " else ") ++ block_text depth (statements_text (deeper depth) otherwise) (codes "\n"))
  statement_text depth controlled (While c body) = condition_text (codes "while (") c ++ block_text depth (statements_text (deeper depth) body) (codes "\n")
  statement_text depth controlled (Print task format arguments) = print_text task format arguments
  statement_text depth controlled (PrintPieces task pieces arguments) = print_pieces_text task pieces arguments
  statement_text depth controlled Finish = codes "$finish;\n"

  -- statements, each with its lines at a depth
  pub statements_text : ℕ → SourceStatements → Text
  statements_text depth End = []
  statements_text depth (Then s ss) = indent depth ++ (statement_text depth false s ++ statements_text depth ss)
