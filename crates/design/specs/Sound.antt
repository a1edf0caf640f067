-- What a design without faults keeps, so that code can be made of it.
use Rattle.std.specs.Prelude.{◌≡◌, ℕ, ◌+◌, ◌<◌, ◌≤◌, List, length}
use Rattle.std.specs.List.{All}
use Rattle.model.specs.Syntax.{Expression, Register, Select, Literal, Concat, Unary, Binary, Conditional, Extend, Expressions, Nothing, Also}
use Rattle.logic4.specs.Vector.{greatest_width, AreWithin}
use Rattle.model.specs.Design.{Design, Statement, Empty, Assign, AssignAfter, AssignLater, Now, Delay, Await, If, While, Print, Finish, Statements, End, Then}
use Rattle.model.specs.Expressions.{total_size}
use Rattle.model.specs.Elaboration.{argument_count, greatest_delay}

-- there is at least one expression
abbrev pub HasSome : Expressions ℕ → Type 0
HasSome Nothing = ⊥
HasSome (Also e es) = Unit {0}

-- how many expressions there are
abbrev pub how_many : Expressions ℕ → ℕ
how_many Nothing = 0
how_many (Also e es) = how_many es + 1

-- each register is declared, each literal is a vector, each extension is to the size of one, and each concatenation has parts that
-- fit one (5.1.14)
abbrev mutual
  pub IsSoundExpression : List ℕ → Expression ℕ → Type 0
  IsSoundExpression widths (Register r) = r < length widths
  IsSoundExpression widths (Select r i) = r < length widths
  IsSoundExpression widths (Literal v) = (1 ≤ length v) × (length v ≤ greatest_width)
  IsSoundExpression widths (Concat parts) = (total_size widths parts ≤ greatest_width) × HasSome parts × AreSoundExpressions widths parts
  IsSoundExpression widths (Unary op e) = IsSoundExpression widths e
  IsSoundExpression widths (Binary op e f) = IsSoundExpression widths e × IsSoundExpression widths f
  IsSoundExpression widths (Conditional c e f) = IsSoundExpression widths c × IsSoundExpression widths e × IsSoundExpression widths f
  IsSoundExpression widths (Extend by size e) = (1 ≤ size) × (size ≤ greatest_width) × IsSoundExpression widths e

  pub AreSoundExpressions : List ℕ → Expressions ℕ → Type 0
  AreSoundExpressions widths Nothing = Unit {0}
  AreSoundExpressions widths (Also e es) = IsSoundExpression widths e × AreSoundExpressions widths es

-- each register is declared, each expression is sound, no delay is too long, and each format has as many conversions
-- as there are arguments
abbrev mutual
  pub IsSoundStatement : List ℕ → Statement → Type 0
  IsSoundStatement widths Empty = Unit {0}
  IsSoundStatement widths (Assign r e) = (r < length widths) × IsSoundExpression widths e
  IsSoundStatement widths (AssignAfter r delay e) = (r < length widths) × (delay ≤ greatest_delay) × IsSoundExpression widths e
  IsSoundStatement widths (AssignLater r delay e) = (r < length widths) × (delay ≤ greatest_delay) × IsSoundExpression widths e
  IsSoundStatement widths (Now r) = r < length widths
  IsSoundStatement widths (Delay delay body) = (delay ≤ greatest_delay) × AreSoundStatements widths body
  IsSoundStatement widths (Await triggers body) = All (λ t. t.1 < length widths) triggers × AreSoundStatements widths body
  IsSoundStatement widths (If c body otherwise) = IsSoundExpression widths c × AreSoundStatements widths body × AreSoundStatements widths otherwise
  IsSoundStatement widths (While c body) = IsSoundExpression widths c × AreSoundStatements widths body
  IsSoundStatement widths (Print task format arguments) = (argument_count format ≡ how_many arguments) × AreSoundExpressions widths arguments
  IsSoundStatement widths Finish = Unit {0}

  pub AreSoundStatements : List ℕ → Statements → Type 0
  AreSoundStatements widths End = Unit {0}
  AreSoundStatements widths (Then s ss) = IsSoundStatement widths s × AreSoundStatements widths ss

-- widths of registers: each has 1 to 128 digits
abbrev pub AreWidths : List ℕ → Type 0
AreWidths widths = All (λ w. 1 ≤ w) widths × AreWithin widths

-- at most 65,536 registers of 1 to 128 digits, and at most 16,384 processes of sound statements
pub record IsSound (design : Design) : Type 0 where
  pub some_digit : All (λ w. 1 ≤ w) design.widths
  pub few_digits : AreWithin design.widths
  pub few_registers : length design.widths ≤ 65536
  pub few_processes : length design.processes ≤ 16384
  pub statements : All (λ p. AreSoundStatements design.widths p.body) design.processes
