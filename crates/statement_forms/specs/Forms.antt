-- Statements that the core lacks, as statements that it has (IEEE 1364-2005, 9).
use Rattle.std.specs.Prelude.{List, [], ◌∷◌, Option, Some, None}
use Rattle.logic4.specs.declared.digit.Digit.TheVariants.{Zero, One}
use Rattle.model.specs.declared.tree.UnaryOperator.TheVariants.{ReduceOr}
use Rattle.model.specs.declared.tree.BinaryOperator.TheVariants.{CaseEqual, CaseNotEqual, Greater, Subtract, LogicalOr}
use Rattle.model.specs.Syntax.{Text, Expression, Register, Literal, Unary, Binary, SourceStatement, Empty, Block, Assign, Await, IfElse, While}
use Rattle.model.specs.SourceTrees.{source_statements, source_expression_of}
use Rattle.statement_forms.specs.Views.{NamedTrigger, core_statements}
use Rattle.statement_forms.specs.declared.choices.Branch.{Branch}

-- a digit 1, and a digit 0
abbrev pub one : Expression Text
one = Literal (One ∷ [])

abbrev pub nought : Expression Text
nought = Literal (Zero ∷ [])

-- statements one after another
abbrev pub block : List SourceStatement → SourceStatement
block ss = Block (source_statements ss)

-- a loop, as long as a condition is true (9.6)
abbrev pub while_true : Expression Text → List SourceStatement → SourceStatement
while_true c ss = While c (source_statements ss)

-- `forever body` (9.6)
abbrev pub forever : SourceStatement → SourceStatement
forever body = while_true one (body ∷ [])

-- `for (start; condition; step) body` (9.6)
abbrev pub for_loop : SourceStatement → Expression Text → SourceStatement → SourceStatement → SourceStatement
for_loop start condition step body = block (start ∷ while_true condition (body ∷ step ∷ []) ∷ [])

-- `repeat (count) body`: the count is taken once, in a hidden variable, and is 0 where a digit of it is unknown (9.6)
abbrev pub repeat_loop : Text → Expression Text → SourceStatement → SourceStatement
repeat_loop hidden count body = block (
    Assign hidden None count
    ∷ while_true (Binary Greater (Register hidden) nought) (Assign hidden None (Binary Subtract (Register hidden) one) ∷ body ∷ [])
    ∷ [])

-- `wait (condition) body` waits, as long as no digit of the condition is 1, for a change of what it reads (9.7.6)
abbrev pub wait_until : Expression Text → List NamedTrigger → SourceStatement → SourceStatement
wait_until condition changes body =
    block (while_true (Binary CaseNotEqual (Unary ReduceOr condition) one) (Await changes Empty ∷ []) ∷ body ∷ [])

-- `-> event`: its digit changes, from 0 to 1, and else to 0 (9.7.3)
abbrev pub happens : Text → SourceStatement
happens event = Assign event None (Binary CaseEqual (Register event) nought)

-- a condition, and the statements that are run where it is true
abbrev pub PlainBranch : Type 0
PlainBranch = Expression Text × List SourceStatement

-- `if`, each `else if`, and the last `else`: the statements of the first condition that is true, or else these (9.4)
abbrev pub if_chain : List PlainBranch → List SourceStatement → List SourceStatement
if_chain [] otherwise = otherwise
if_chain (b ∷ bs) otherwise = IfElse b.0 (source_statements b.1) (source_statements (if_chain bs otherwise)) ∷ []

-- whether a label is what a variable holds, digit for digit (9.5)
abbrev pub fits : Text → Expression Text → Expression Text
fits hidden label = Binary CaseEqual (Register hidden) label

-- one condition or another, if there is another
abbrev pub or_also : Expression Text → Option (Expression Text) → Expression Text
or_also c None = c
or_also c (Some d) = Binary LogicalOr c d

-- whether one of the labels is, or else what comes behind them
abbrev pub any_fits : Text → List (Expression Text) → Option (Expression Text) → Option (Expression Text)
any_fits hidden [] behind = behind
any_fits hidden (l ∷ ls) behind = Some (or_also (fits hidden l) (any_fits hidden ls behind))

-- `case (selector) ..`: the selector is taken once, in a hidden variable (9.5)
abbrev pub case_of : Text → Expression Text → List PlainBranch → List SourceStatement → SourceStatement
case_of hidden selector branches otherwise = block (Assign hidden None selector ∷ if_chain branches otherwise)

-- a branch as the program holds it
abbrev pub branch_of : Branch → PlainBranch
branch_of b = (source_expression_of b.condition, core_statements b.body)
