-- What stands for the calls of functions and tasks in a text (IEEE 1364-2005, 10).
use Rattle.std.specs.Prelude.{ℕ, true, false, Option, Some, None, codes, if◌then◌else◌}
use Rattle.std.specs.Str.{bytes_eq}
use Rattle.logic4.specs.Vector.{vector, unknown}
use Rattle.syntax_tree.specs.declared.expressions.VerilogUnaryOperator.TheVariants as unary
use Rattle.syntax_tree.specs.declared.expressions.VerilogBinaryOperator.TheVariants as binary
use Rattle.syntax_tree.specs.declared.expressions.PartForm.TheVariants as parts
use Rattle.syntax_tree.specs.declared.statements.AssignmentForm.TheVariants as form
use Rattle.syntax_tree.specs.declared.statements.BlockForm.TheVariants as blocks
use Rattle.syntax_tree.specs.Expressions as source
use Rattle.syntax_tree.specs.Expressions.{Expression}
use Rattle.statement_parts.specs.Statements as plain
use Rattle.statement_parts.specs.Statements.{SourceText, PlainStatement, PlainStatements, PlainOtherwise}

-- a number of one digit
abbrev pub single_digit : ℕ → ℕ → Expression
single_digit at value = source.Number at true false false (vector 1 value)

-- `'bx`, which is as wide as what it is given to (3.5.1)
abbrev pub unknown_number : ℕ → Expression
unknown_number at = source.Number at false false false (unknown 32)

-- `!condition !== digit`
abbrev pub denied_unless : ℕ → Expression → ℕ → Expression
denied_unless at condition value = source.Binary at binary.CaseNotEqual (source.Unary at unary.LogicalNot condition) (single_digit at value)

-- an assignment that is done at once (9.2.1)
abbrev pub given_to : ℕ → Expression → Expression → PlainStatement
given_to at target value = plain.Assignment at form.Blocking target None value

-- statements one after another, under a name or none (9.8.1)
abbrev pub statements_block : ℕ → Option SourceText → PlainStatements → PlainStatement
statements_block at name body = plain.Block at blocks.Sequential name body

-- what is done where a condition doesn't hold, if anything
abbrev pub else_of : Option PlainStatement → PlainOtherwise
else_of None = plain.NoElse
else_of (Some s) = plain.Else s

-- a statement that is done where a condition holds, and perhaps one where it doesn't (9.4)
abbrev pub one_choice : ℕ → Expression → PlainStatement → Option PlainStatement → PlainStatement
one_choice at condition body otherwise = plain.If at (plain.Branch condition body plain.NoBranch) (else_of otherwise)

-- a variable that is given the time (17.7.1)
abbrev pub given_time : ℕ → SourceText → PlainStatement
given_time at name = given_to at (source.Name at name) (source.SystemCall at (codes "$time") source.Nothing)

-- a number without a size
abbrev pub unsized_number : ℕ → ℕ → Expression
unsized_number at value = source.Number at false true false (vector 32 value)

-- what a function of the time has by a variable that was given it: `$time` all of it, and `$stime` its low 32 digits (17.7)
abbrev pub time_kept : ℕ → SourceText → SourceText → Expression
time_kept at function name =
    if bytes_eq function (codes "$time") then source.Name at name else source.Part at parts.Constant (source.Name at name) (unsized_number at 31) (unsized_number at 0)

-- a number of a size, without a sign
abbrev pub number_of_size : ℕ → ℕ → ℕ → Expression
number_of_size at size value = source.Number at true false false (vector size value)

-- an expression of its own size and without a sign
abbrev pub own_number : ℕ → Expression → Expression
own_number at e = source.SystemCall at (codes "$unsigned") (source.Also e source.Nothing)

-- a number moved to the left by so many digits
abbrev pub moved_number : ℕ → Expression → ℕ → Expression
moved_number at e digits = source.Binary at binary.ShiftLeft e (number_of_size at 8 digits)
