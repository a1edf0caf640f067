-- Statements as plain trees (IEEE 1364-2005, A.6), without the program's boxes and vectors.
use Rattle.std.specs.Prelude.{ℕ, Bool, ◌||◌, IsTrue, List, [], ◌∷◌, map, Option, Some, None, codes}
use Rattle.std.specs.Str.{bytes_eq}
use Rattle.std.specs.Box.{box_value}
use Rattle.std.specs.declared.boxed.Box.{Box}
use Rattle.std.specs.declared.alloc.Global.{Global}
use Rattle.syntax_tree.specs.declared.statements.AssignmentForm.{AssignmentForm}
use Rattle.syntax_tree.specs.declared.statements.BlockForm.{BlockForm}
use Rattle.syntax_tree.specs.declared.statements.CaseForm.{CaseForm}
use Rattle.syntax_tree.specs.declared.statements.VerilogChange.{VerilogChange}
use Rattle.syntax_tree.specs.declared.expressions.VerilogExpression as program_expression
use Rattle.syntax_tree.specs.declared.expressions.Identifier.{Identifier}
use Rattle.syntax_tree.specs.declared.statements.AssignmentTiming as program_timing
use Rattle.syntax_tree.specs.declared.statements.AssignmentTiming.TheVariants as timings
use Rattle.syntax_tree.specs.declared.statements.VerilogEvent as program_event
use Rattle.syntax_tree.specs.declared.statements.EventControl as program_control
use Rattle.syntax_tree.specs.declared.statements.EventControl.TheVariants as controls
use Rattle.syntax_tree.specs.declared.statements.VariableAssignment as program_assignment
use Rattle.syntax_tree.specs.declared.statements.VerilogStatement as program
use Rattle.syntax_tree.specs.declared.statements.VerilogStatement.{fold-VerilogStatement}
use Rattle.syntax_tree.specs.declared.statements.ConditionalBranch as program_branch
use Rattle.syntax_tree.specs.declared.statements.ConditionalBranch.{fold-ConditionalBranch}
use Rattle.syntax_tree.specs.declared.statements.CaseItem as program_item
use Rattle.syntax_tree.specs.declared.statements.CaseItem.{fold-CaseItem}
use Rattle.syntax_tree.specs.declared.statements.VerilogStatement.TheOpen.{VerilogStatement-F, ConditionalBranch-F, CaseItem-F}
use Rattle.syntax_tree.specs.Expressions.{Expression, plain_expression_of, plain_expressions_of}

-- the bytes of a name
abbrev pub SourceText : Type 0
SourceText = List ℕ

-- an event that is waited for (9.7.2)
pub record PlainEvent : Type 0 where
  pub at : ℕ
  pub change : VerilogChange
  pub expression : Expression

-- an event control: `@*`, or one of some events (9.7.4, 9.7.5)
pub data PlainControl : Type 0 where
  Implicit : PlainControl
  Events : (events : List PlainEvent) → PlainControl

-- what stands between the value of an assignment and its effect (9.7.7)
pub data PlainTiming : Type 0 where
  AfterDelay : (delay : Expression) → PlainTiming
  AfterEvent : (control : PlainControl) → PlainTiming
  AfterEvents : (count : Expression) (control : PlainControl) → PlainTiming

-- a variable and its new value
pub record PlainAssignment : Type 0 where
  pub at : ℕ
  pub target : Expression
  pub value : Expression

mutual
  -- a statement, each node with the number of its token
  pub data PlainStatement : Type 0 where
    Empty : (at : ℕ) → PlainStatement
    Block : (at : ℕ) (form : BlockForm) (name : Option SourceText) (body : PlainStatements) → PlainStatement
    Assignment : (at : ℕ) (form : AssignmentForm) (target : Expression) (timing : Option PlainTiming) (value : Expression) → PlainStatement
    Delayed : (at : ℕ) (delay : Expression) (body : PlainStatement) → PlainStatement
    Awaited : (at : ℕ) (control : PlainControl) (body : PlainStatement) → PlainStatement
    Wait : (at : ℕ) (condition : Expression) (body : PlainStatement) → PlainStatement
    If : (at : ℕ) (branches : PlainBranches) (otherwise : PlainOtherwise) → PlainStatement
    Case : (at : ℕ) (form : CaseForm) (selector : Expression) (items : PlainItems) → PlainStatement
    For : (at : ℕ) (start : PlainAssignment) (condition : Expression) (step : PlainAssignment) (body : PlainStatement) → PlainStatement
    Repeat : (at : ℕ) (count : Expression) (body : PlainStatement) → PlainStatement
    While : (at : ℕ) (condition : Expression) (body : PlainStatement) → PlainStatement
    Forever : (at : ℕ) (body : PlainStatement) → PlainStatement
    Disable : (at : ℕ) (target : Expression) → PlainStatement
    Trigger : (at : ℕ) (event : Expression) → PlainStatement
    TaskCall : (at : ℕ) (task : Expression) (arguments : List Expression) → PlainStatement
    SystemTaskCall : (at : ℕ) (name : SourceText) (arguments : List (Option Expression)) → PlainStatement
    Refused : (at : ℕ) → PlainStatement

  -- statements in the order of the text
  pub data PlainStatements : Type 0 where
    NoMore : PlainStatements
    Then : (first : PlainStatement) (others : PlainStatements) → PlainStatements

  -- conditions with their statements, in the order of the text
  pub data PlainBranches : Type 0 where
    NoBranch : PlainBranches
    Branch : (condition : Expression) (body : PlainStatement) (others : PlainBranches) → PlainBranches

  -- the last `else`, where there is one
  pub data PlainOtherwise : Type 0 where
    NoElse : PlainOtherwise
    Else : (body : PlainStatement) → PlainOtherwise

  -- the items of a `case`, each with its labels; the default has none
  pub data PlainItems : Type 0 where
    NoItem : PlainItems
    Item : (at : ℕ) (labels : List Expression) (body : PlainStatement) (others : PlainItems) → PlainItems

-- the statements of a list, in its order
abbrev pub plain_statements : List PlainStatement → PlainStatements
plain_statements [] = NoMore
plain_statements (s ∷ ss) = Then s (plain_statements ss)

-- the branches of a list
abbrev pub plain_branches : List (Expression × PlainStatement) → PlainBranches
plain_branches [] = NoBranch
plain_branches (b ∷ bs) = Branch b.0 b.1 (plain_branches bs)

-- an item of a `case` by its token, its labels and its statement
pub record PlainItem : Type 0 where
  pub at : ℕ
  pub labels : List Expression
  pub body : PlainStatement

-- the items of a list
abbrev pub plain_items : List PlainItem → PlainItems
plain_items [] = NoItem
plain_items (i ∷ is) = Item i.at i.labels i.body (plain_items is)

-- the last `else`, by a statement that is already the plain one
abbrev pub last_else : Option (Box PlainStatement Global) → PlainOtherwise
last_else None = NoElse
last_else (Some s) = Else (box_value s)

-- an identifier's name
abbrev pub name_in : Option Identifier → Option SourceText
name_in None = None
name_in (Some identifier) = Some identifier.name.items

abbrev pub plain_event : program_event.VerilogEvent → PlainEvent
plain_event e = record { at = e.token; change = e.change; expression = plain_expression_of e.expression }

abbrev pub plain_control : program_control.EventControl → PlainControl
plain_control controls.Implicit = Implicit
plain_control (controls.Events events) = Events (map plain_event events.items)

abbrev pub plain_timing : program_timing.AssignmentTiming → PlainTiming
plain_timing (timings.Delay e) = AfterDelay (plain_expression_of e)
plain_timing (timings.Event control) = AfterEvent (plain_control control)
plain_timing (timings.Repeat count control) = AfterEvents (plain_expression_of count) (plain_control control)

abbrev pub plain_assignment : program_assignment.VariableAssignment → PlainAssignment
plain_assignment a = record { at = a.token; target = plain_expression_of a.target; value = plain_expression_of a.value }

-- the parts of a system task's call, of which one may be left out
abbrev pub plain_argument : Option program_expression.VerilogExpression → Option Expression
plain_argument None = None
plain_argument (Some e) = Some (plain_expression_of e)

-- the timing of an assignment, where it has one
abbrev pub timing_of : Option (Box program_timing.AssignmentTiming Global) → Option PlainTiming
timing_of None = None
timing_of (Some timing) = Some (plain_timing (box_value timing))

-- one node of a statement, with each statement inside it already the plain one
abbrev pub plain_node : VerilogStatement-F PlainStatement PlainItem (Expression × PlainStatement) → PlainStatement
plain_node (VerilogStatement-F.Empty at) = Empty at
plain_node (VerilogStatement-F.Block at form name items body) = Block at form (name_in name) (plain_statements body.items)
plain_node (VerilogStatement-F.Assignment at form target timing value) = Assignment at form (plain_expression_of target) (timing_of timing) (plain_expression_of value)
plain_node (VerilogStatement-F.Delayed at delay body) = Delayed at (plain_expression_of delay) (box_value body)
plain_node (VerilogStatement-F.Awaited at control body) = Awaited at (plain_control control) (box_value body)
plain_node (VerilogStatement-F.Wait at condition body) = Wait at (plain_expression_of condition) (box_value body)
plain_node (VerilogStatement-F.If at branches otherwise) = If at (plain_branches branches.items) (last_else otherwise)
plain_node (VerilogStatement-F.Case at form selector items) = Case at form (plain_expression_of selector) (plain_items items.items)
plain_node (VerilogStatement-F.For at start condition step body) = For at (plain_assignment (box_value start)) (plain_expression_of condition) (plain_assignment (box_value step)) (box_value body)
plain_node (VerilogStatement-F.Repeat at count body) = Repeat at (plain_expression_of count) (box_value body)
plain_node (VerilogStatement-F.While at condition body) = While at (plain_expression_of condition) (box_value body)
plain_node (VerilogStatement-F.Forever at body) = Forever at (box_value body)
plain_node (VerilogStatement-F.Disable at target) = Disable at (plain_expression_of target)
plain_node (VerilogStatement-F.Trigger at event) = Trigger at (plain_expression_of event)
plain_node (VerilogStatement-F.TaskCall at task arguments) = TaskCall at (plain_expression_of task) (plain_expressions_of arguments)
plain_node (VerilogStatement-F.SystemTaskCall at name arguments) = SystemTaskCall at name.items (map plain_argument arguments.items)
plain_node (VerilogStatement-F.Refused at) = Refused at

-- one branch, and one item, with the statement inside it already the plain one
abbrev pub branch_node : ConditionalBranch-F PlainStatement PlainItem (Expression × PlainStatement) → Expression × PlainStatement
branch_node b = (plain_expression_of b.condition, b.body)

abbrev pub item_node : CaseItem-F PlainStatement PlainItem (Expression × PlainStatement) → PlainItem
item_node i = record { at = i.token; labels = plain_expressions_of i.labels; body = i.body }

-- the plain tree of a statement
abbrev pub plain_of : program.VerilogStatement → PlainStatement
plain_of = fold-VerilogStatement PlainStatement PlainItem (Expression × PlainStatement) plain_node item_node branch_node

-- the branches of an `if`, and the items of a `case`
abbrev pub plain_branch_of : program_branch.ConditionalBranch → Expression × PlainStatement
plain_branch_of = fold-ConditionalBranch PlainStatement PlainItem (Expression × PlainStatement) plain_node item_node branch_node

abbrev pub plain_branches_of : List program_branch.ConditionalBranch → PlainBranches
plain_branches_of branches = plain_branches (map plain_branch_of branches)

abbrev pub plain_item_of : program_item.CaseItem → PlainItem
plain_item_of = fold-CaseItem PlainStatement PlainItem (Expression × PlainStatement) plain_node item_node branch_node

abbrev pub plain_items_of : List program_item.CaseItem → PlainItems
plain_items_of items = plain_items (map plain_item_of items)

-- the statements of a block
abbrev pub plain_all_of : List program.VerilogStatement → PlainStatements
plain_all_of body = plain_statements (map plain_of body)

-- the last `else` of an `if`, as the program holds it
abbrev pub otherwise_of : Option (Box program.VerilogStatement Global) → PlainOtherwise
otherwise_of None = NoElse
otherwise_of (Some body) = Else (plain_of (box_value body))

-- the system tasks that end a run (17.4)
abbrev pub EndsRun : SourceText → Type 0
EndsRun name = IsTrue (bytes_eq name (codes "$finish") || bytes_eq name (codes "$stop"))

-- the system tasks that write waves (18.1)
abbrev pub is_dump_task : SourceText → Bool
is_dump_task name =
    bytes_eq name (codes "$dumpfile") || bytes_eq name (codes "$dumpvars") || bytes_eq name (codes "$dumpon") || bytes_eq name (codes "$dumpoff") || bytes_eq name (codes "$dumpall")
    || bytes_eq name (codes "$dumplimit") || bytes_eq name (codes "$dumpflush")
