-- Statements of a design, as the core has them (IEEE 1364-2005, 9).
use Rattle.std.specs.Prelude.{◌≡◌, ℕ, Bool, true, false, List, [], ◌∷◌, ◌++◌, map, Option, Some, None}
use Rattle.logic4.specs.Vector.{vector}
use Rattle.model.specs.declared.tree.BinaryOperator.TheVariants.{SignedLess}
use Rattle.model.specs.declared.tree.Task.{Task}
use Rattle.model.specs.Syntax as core
use Rattle.model.specs.Syntax.{SourceStatement, registers_of}
use Rattle.model.specs.SourceTrees.{source_expressions}
use Rattle.shaped_trees.specs.declared.shape.Shape.{Shape}
use Rattle.syntax_tree.specs.declared.statements.AssignmentForm.{AssignmentForm}
use Rattle.syntax_tree.specs.declared.statements.AssignmentForm.TheVariants.{Blocking, Nonblocking}
use Rattle.syntax_tree.specs.declared.statements.BlockForm.TheVariants.{Sequential}
use Rattle.syntax_tree.specs.declared.statements.CaseForm.TheVariants as cases
use Rattle.syntax_tree.specs.Expressions.{Expression}
use Rattle.sizing.specs.declared.environment.Object.{Object}
use Rattle.sizing.specs.Names.{Names}
use Rattle.sizing.specs.Meanings.{meaning, own_shape}
use Rattle.sizing.specs.Typing.{IsNameOf, IsLowered, joined_shape, assigned_shape}
use Rattle.statement_forms.specs.Views.{NamedTrigger}
use Rattle.statement_forms.specs.Forms.{PlainBranch, block, while_true, forever, for_loop, repeat_loop, wait_until, happens, if_chain, any_fits, case_of}
use Rattle.statement_parts.specs.Statements as plain
use Rattle.statement_parts.specs.Statements.{SourceText, PlainStatement, PlainStatements, PlainBranches, PlainOtherwise, PlainItems, PlainControl, PlainTiming, PlainAssignment}
use Rattle.statement_parts.specs.Surroundings.{Surroundings, inner_scope}
use Rattle.statement_parts.specs.Times.{is_time}
use Rattle.statement_parts.specs.Parts.{IsTargetOf, IsDelayNumber, IsGivenDelay, whole_change, AreControlEvents}
use Rattle.lowering.specs.Hidden.{HiddenList}
use Rattle.lowering.specs.Prints.{Arguments, Shown, task_of, IsPrint}

-- the right side of an assignment to a variable of a width (5.5.3)
abbrev pub IsRightSide : Names → ℕ → Expression → core.Expression SourceText → Type 0
IsRightSide n width value made = IsLowered n (meaning n value) (assigned_shape (meaning n value) width) made

-- whether an assignment gives the time at once (17.7.1)
abbrev pub gives_time : AssignmentForm → Option ℕ → Expression → Bool
gives_time Blocking None value = is_time value
gives_time form delay value = false

-- an expression on its own
abbrev pub IsSelfLowered : Names → Expression → core.Expression SourceText → Type 0
IsSelfLowered n e made = IsLowered n (meaning n e) (own_shape (meaning n e)) made

-- the greatest width of a selector and its labels, signed where all are (9.5)
abbrev pub labels_shape : Names → Shape → List Expression → Shape
labels_shape n s [] = s
labels_shape n s (e ∷ es) = labels_shape n (joined_shape s (own_shape (meaning n e))) es

abbrev pub items_shape : Names → Shape → PlainItems → Shape
items_shape n s plain.NoItem = s
items_shape n s (plain.Item at labels body others) = items_shape n (labels_shape n s labels) others

-- the shape at which a `case` compares
abbrev pub case_shape : Names → Expression → PlainItems → Shape
case_shape n selector items = items_shape n (own_shape (meaning n selector)) items

-- a shape is no narrower than an expression, and has no sign where that has none
abbrev pub TakesIn : Names → Shape → Expression → Type 0
TakesIn n s e = joined_shape (own_shape (meaning n e)) s ≡ s

abbrev pub TakesAllIn : Names → Shape → List Expression → Type 0
TakesAllIn n s [] = Unit {0}
TakesAllIn n s (e ∷ es) = TakesIn n s e × TakesAllIn n s es

-- so for the labels of each item
abbrev pub TakesItemsIn : Names → Shape → PlainItems → Type 0
TakesItemsIn n s plain.NoItem = Unit {0}
TakesItemsIn n s (plain.Item at labels body others) = TakesAllIn n s labels × TakesItemsIn n s others

-- expressions at a shape, in their order
pub data AreLowered (n : Names) (s : Shape) : List Expression → List (core.Expression SourceText) → Type 0 where
  none_lowered : AreLowered n s [] []
  one_lowered : (e : Expression) (made : core.Expression SourceText) (es : List Expression) (others : List (core.Expression SourceText))
      → IsLowered n (meaning n e) s made → AreLowered n s es others → AreLowered n s (e ∷ es) (made ∷ others)

-- a vector of zeros
abbrev pub zeros : ℕ → core.Expression SourceText
zeros width = core.Literal (vector width 0)

-- a count, which is 0 where it has a sign and is negative (9.6)
abbrev pub count_tree : Bool → ℕ → core.Expression SourceText → core.Expression SourceText
count_tree false width made = made
count_tree true width made = core.Conditional (core.Binary SignedLess made (zeros width)) (zeros width) made

mutual
  -- A statement of a scope stands for a statement of the core, with the hidden variables that it has alone, each with its width, in the order
  -- in which they are made.
  pub data Lowers (d : Surroundings) : ℕ → PlainStatement → SourceStatement → HiddenList → Type 0 where
    lowers_empty : (scope at : ℕ) → Lowers d scope (plain.Empty at) core.Empty []
    -- begin .. end (9.8.1)
    lowers_block : (scope inner at : ℕ) (name : Option SourceText) (body : PlainStatements) (made : List SourceStatement) (used : HiddenList) → inner_scope d scope name ≡ Some inner
        → LowersAll d inner body made used → Lowers d scope (plain.Block at Sequential name body) (block made) used
    -- target = value (9.2.1)
    lowers_assignment : (scope at width : ℕ) (target value : Expression) (timing : Option PlainTiming) (name : SourceText) (delay : Option ℕ) (made : core.Expression SourceText)
        → IsTargetOf (d.names scope) target name width → IsGivenDelay (d.names scope) timing delay → IsRightSide (d.names scope) width value made
        → Lowers d scope (plain.Assignment at Blocking target timing value) (core.Assign name delay made) []
    -- target = $time (17.7.1)
    lowers_time : (scope at width : ℕ) (target value : Expression) (name : SourceText) → IsTargetOf (d.names scope) target name width → is_time value ≡ true
        → Lowers d scope (plain.Assignment at Blocking target None value) (core.Now name) []
    -- target <= value (9.2.2)
    lowers_later : (scope at width : ℕ) (target value : Expression) (timing : Option PlainTiming) (name : SourceText) (delay : Option ℕ) (made : core.Expression SourceText)
        → IsTargetOf (d.names scope) target name width → IsGivenDelay (d.names scope) timing delay → IsRightSide (d.names scope) width value made
        → Lowers d scope (plain.Assignment at Nonblocking target timing value) (core.AssignLater name delay made) []
    -- # delay body (9.7.1)
    lowers_delayed : (scope at delay : ℕ) (e : Expression) (body : PlainStatement) (made : SourceStatement) (used : HiddenList) → IsDelayNumber (d.names scope) e delay → Lowers d scope body made used
        → Lowers d scope (plain.Delayed at e body) (core.Delay delay made) used
    -- @ (events) body, and @* body (9.7.2, 9.7.5)
    lowers_awaited : (scope at : ℕ) (control : PlainControl) (triggers : List NamedTrigger) (body : PlainStatement) (made : SourceStatement) (used : HiddenList)
        → AreControlEvents d scope control body triggers → Lowers d scope body made used → Lowers d scope (plain.Awaited at control body) (core.Await triggers made) used
    -- wait (condition) body (9.7.6)
    lowers_wait : (scope at : ℕ) (condition : Expression) (tree : core.Expression SourceText) (body : PlainStatement) (made : SourceStatement) (used : HiddenList) → IsSelfLowered (d.names scope) condition tree
        → Lowers d scope body made used → Lowers d scope (plain.Wait at condition body) (wait_until tree (map whole_change (registers_of tree)) made) used
    -- if, each else if, and the last else (9.4)
    lowers_if : (scope at : ℕ) (branches : PlainBranches) (otherwise : PlainOtherwise) (made : List PlainBranch) (last : List SourceStatement) (used more : HiddenList) → LowersBranches d scope branches made used
        → LowersOtherwise d scope otherwise last more → Lowers d scope (plain.If at branches otherwise) (block (if_chain made last)) (used ++ more)
    -- case (9.5)
    lowers_case : (scope at : ℕ) (hidden : SourceText) (selector : Expression) (tree : core.Expression SourceText) (items : PlainItems) (made : List PlainBranch) (last : List SourceStatement) (used : HiddenList)
        → IsLowered (d.names scope) (meaning (d.names scope) selector) (case_shape (d.names scope) selector items) tree
        → LowersItems d scope (case_shape (d.names scope) selector items) hidden items made last used
        → Lowers d scope (plain.Case at cases.Case selector items) (case_of hidden tree made last) ((hidden, (case_shape (d.names scope) selector items).width) ∷ used)
    -- for (9.6)
    lowers_for : (scope at : ℕ) (start step : PlainAssignment) (condition : Expression) (tree : core.Expression SourceText) (body : PlainStatement) (first next made : SourceStatement) (used : HiddenList)
        → Lowers d scope (plain.Assignment start.at Blocking start.target None start.value) first [] → Lowers d scope (plain.Assignment step.at Blocking step.target None step.value) next []
        → IsSelfLowered (d.names scope) condition tree → Lowers d scope body made used → Lowers d scope (plain.For at start condition step body) (for_loop first tree next made) used
    -- repeat (9.6)
    lowers_repeat : (scope at : ℕ) (hidden : SourceText) (count : Expression) (tree : core.Expression SourceText) (body : PlainStatement) (made : SourceStatement) (used : HiddenList)
        → IsSelfLowered (d.names scope) count tree → Lowers d scope body made used
        → Lowers d scope (plain.Repeat at count body) (repeat_loop hidden (count_tree (meaning (d.names scope) count).signed (meaning (d.names scope) count).size tree) made)
        (used ++ (hidden, (meaning (d.names scope) count).size) ∷ [])
    -- while (9.6)
    lowers_while : (scope at : ℕ) (condition : Expression) (tree : core.Expression SourceText) (body : PlainStatement) (made : SourceStatement) (used : HiddenList) → IsSelfLowered (d.names scope) condition tree
        → Lowers d scope body made used → Lowers d scope (plain.While at condition body) (while_true tree (made ∷ [])) used
    -- forever (9.6)
    lowers_forever : (scope at : ℕ) (body : PlainStatement) (made : SourceStatement) (used : HiddenList) → Lowers d scope body made used → Lowers d scope (plain.Forever at body) (forever made) used
    -- -> event (9.7.3)
    lowers_trigger : (scope at : ℕ) (e : Expression) (name : SourceText) (o : Object) → d.event scope e ≡ Some o → IsNameOf name o → Lowers d scope (plain.Trigger at e) (happens name) []
    -- $display, $strobe and $write (17.1)
    lowers_print : (scope at : ℕ) (name : SourceText) (task : Task) (arguments : Arguments) (shown : Shown) → task_of name ≡ Some task
        → IsPrint (d.names scope) (d.path scope) arguments shown
        → Lowers d scope (plain.SystemTaskCall at name arguments) (core.PrintPieces task shown.0 (source_expressions shown.1)) []
    -- $finish and $stop (17.4)
    lowers_finish : (scope at : ℕ) (name : SourceText) (arguments : Arguments) → plain.EndsRun name → Lowers d scope (plain.SystemTaskCall at name arguments) core.Finish []
    -- $dumpvars and its kin (18.1)
    lowers_dump : (scope at : ℕ) (name : SourceText) (arguments : Arguments) → plain.is_dump_task name ≡ true → Lowers d scope (plain.SystemTaskCall at name arguments) core.Empty []

  -- each statement of some, in their order
  pub data LowersAll (d : Surroundings) : ℕ → PlainStatements → List SourceStatement → HiddenList → Type 0 where
    lowers_none : (scope : ℕ) → LowersAll d scope plain.NoMore [] []
    lowers_one : (scope : ℕ) (s : PlainStatement) (made : SourceStatement) (ss : PlainStatements) (others : List SourceStatement) (used more : HiddenList) → Lowers d scope s made used → LowersAll d scope ss others more
        → LowersAll d scope (plain.Then s ss) (made ∷ others) (used ++ more)

  -- each condition with its statement, in their order
  pub data LowersBranches (d : Surroundings) : ℕ → PlainBranches → List PlainBranch → HiddenList → Type 0 where
    no_branch : (scope : ℕ) → LowersBranches d scope plain.NoBranch [] []
    one_branch : (scope : ℕ) (condition : Expression) (tree : core.Expression SourceText) (s : PlainStatement) (made : SourceStatement) (bs : PlainBranches) (others : List PlainBranch) (used more : HiddenList)
        → IsSelfLowered (d.names scope) condition tree → Lowers d scope s made used → LowersBranches d scope bs others more
        → LowersBranches d scope (plain.Branch condition s bs) ((tree, made ∷ []) ∷ others) (used ++ more)

  -- the last else, where there is one
  pub data LowersOtherwise (d : Surroundings) : ℕ → PlainOtherwise → List SourceStatement → HiddenList → Type 0 where
    no_else : (scope : ℕ) → LowersOtherwise d scope plain.NoElse [] []
    one_else : (scope : ℕ) (s : PlainStatement) (made : SourceStatement) (used : HiddenList) → Lowers d scope s made used → LowersOtherwise d scope (plain.Else s) (made ∷ []) used

  -- the items of a case: a branch for each that has labels, which are compared at a shape with a hidden variable, and what the default does
  pub data LowersItems (d : Surroundings) : ℕ → Shape → SourceText → PlainItems → List PlainBranch → List SourceStatement → HiddenList → Type 0 where
    no_item : (scope : ℕ) (shape : Shape) (hidden : SourceText) → LowersItems d scope shape hidden plain.NoItem [] [] []
    labelled : (scope at : ℕ) (shape : Shape) (hidden : SourceText) (labels : List Expression) (trees : List (core.Expression SourceText)) (condition : core.Expression SourceText) (s : PlainStatement) (made : SourceStatement)
        (items : PlainItems) (others : List PlainBranch) (last : List SourceStatement) (used more : HiddenList)
        → AreLowered (d.names scope) shape labels trees → any_fits hidden trees None ≡ Some condition → Lowers d scope s made used → LowersItems d scope shape hidden items others last more
        → LowersItems d scope shape hidden (plain.Item at labels s items) ((condition, made ∷ []) ∷ others) last (used ++ more)
    default : (scope at : ℕ) (shape : Shape) (hidden : SourceText) (s : PlainStatement) (made : SourceStatement) (items : PlainItems) (others : List PlainBranch) (used more : HiddenList) → Lowers d scope s made used
        → LowersItems d scope shape hidden items others [] more → LowersItems d scope shape hidden (plain.Item at [] s items) others (made ∷ []) (used ++ more)

-- the assignment of the head of a `for`
abbrev pub head_assignment : PlainAssignment → PlainStatement
head_assignment a = plain.Assignment a.at Blocking a.target None a.value

-- What one step makes of statements that are lowered already. Each is the last premises of a rule above.

abbrev pub IsDelayed : Surroundings → ℕ → Expression → SourceStatement → SourceStatement → Type 0
IsDelayed d scope e body made = (delay : ℕ) × IsDelayNumber (d.names scope) e delay × (made ≡ core.Delay delay body)

-- a control before a statement, and what that is lowered to
abbrev pub IsAwaited : Surroundings → ℕ → PlainControl → PlainStatement → SourceStatement → SourceStatement → Type 0
IsAwaited d scope control source body made = (triggers : List NamedTrigger) × AreControlEvents d scope control source triggers × (made ≡ core.Await triggers body)

abbrev pub IsWaitLoop : Surroundings → ℕ → Expression → SourceStatement → SourceStatement → Type 0
IsWaitLoop d scope condition body made = (tree : core.Expression SourceText) × IsSelfLowered (d.names scope) condition tree × (made ≡ wait_until tree (map whole_change (registers_of tree)) body)

abbrev pub IsWhile : Surroundings → ℕ → Expression → SourceStatement → SourceStatement → Type 0
IsWhile d scope condition body made = (tree : core.Expression SourceText) × IsSelfLowered (d.names scope) condition tree × (made ≡ while_true tree (body ∷ []))

abbrev pub IsFor : Surroundings → ℕ → PlainAssignment → Expression → PlainAssignment → SourceStatement → SourceStatement → Type 0
IsFor d scope start condition step body made =
    (first : SourceStatement) × (next : SourceStatement) × (tree : core.Expression SourceText) × Lowers d scope (head_assignment start) first [] × Lowers d scope (head_assignment step) next []
    × IsSelfLowered (d.names scope) condition tree × (made ≡ for_loop first tree next body)

-- a repeat, with the hidden variable of its count
abbrev pub IsRepeat : Surroundings → ℕ → Expression → SourceStatement → SourceStatement → HiddenList → Type 0
IsRepeat d scope count body made used =
    (hidden : SourceText) × (tree : core.Expression SourceText) × (used ≡ (hidden, (meaning (d.names scope) count).size) ∷ []) × IsSelfLowered (d.names scope) count tree
    × (made ≡ repeat_loop hidden (count_tree (meaning (d.names scope) count).signed (meaning (d.names scope) count).size tree) body)

-- what is made of the items of a `case`: a branch for each with labels, and what the default does
abbrev pub CaseMade : Type 0
CaseMade = List PlainBranch × List SourceStatement

-- of no item nothing is made
abbrev pub nothing_made : CaseMade
nothing_made = ([], [])

-- a branch is added behind the others where there is a condition, and else the default, of which there was none
abbrev pub IsPartAdded : Option (core.Expression SourceText) → SourceStatement → CaseMade → CaseMade → Type 0
IsPartAdded None body old new = (old.1 ≡ []) × (new ≡ (old.0, body ∷ []))
IsPartAdded (Some condition) body old new = new ≡ (old.0 ++ (condition, body ∷ []) ∷ [], old.1)

-- an item is added, whose statement is lowered already
abbrev pub AddsItem : Surroundings → ℕ → Shape → SourceText → List Expression → SourceStatement → CaseMade → CaseMade → Type 0
AddsItem d scope shape hidden labels body old new = (trees : List (core.Expression SourceText)) × AreLowered (d.names scope) shape labels trees × IsPartAdded (any_fits hidden trees None) body old new
