-- Modules whose numbers the program's design can hold.
use Rattle.std.specs.Prelude.{ℕ, ◌≤◌, List, [], ◌∷◌, Option, None, Some}
use Rattle.model.specs.Syntax as source
use Rattle.model.specs.Syntax.{Text, Expression, Register, Select, Literal, Concat, Unary, Binary, Conditional, Extend, Expressions, Nothing, Also}
use Rattle.logic4.specs.Vector.{greatest_width}
use Rattle.model.specs.Elaboration.{greatest_delay}

-- each bit index is at most the greatest width
abbrev mutual
  pub IsSmall : Expression Text → Type 0
  IsSmall (Register name) = Unit {0}
  IsSmall (Select name i) = i ≤ greatest_width
  IsSmall (Literal v) = Unit {0}
  IsSmall (Concat parts) = AreSmall parts
  IsSmall (Unary op e) = IsSmall e
  IsSmall (Binary op e f) = IsSmall e × IsSmall f
  IsSmall (Conditional c e f) = IsSmall c × IsSmall e × IsSmall f
  IsSmall (Extend by size e) = IsSmall e

  pub AreSmall : Expressions Text → Type 0
  AreSmall Nothing = Unit {0}
  AreSmall (Also e es) = IsSmall e × AreSmall es

-- a delay isn't too long, if there is one
abbrev pub IsShortDelay : Option ℕ → Type 0
IsShortDelay None = Unit {0}
IsShortDelay (Some delay) = delay ≤ greatest_delay

-- each delay isn't too long, and each expression is small
abbrev mutual
  pub IsSmallStatement : source.SourceStatement → Type 0
  IsSmallStatement source.Empty = Unit {0}
  IsSmallStatement (source.Block body) = AreSmallStatements body
  IsSmallStatement (source.Assign name delay e) = IsShortDelay delay × IsSmall e
  IsSmallStatement (source.AssignLater name delay e) = IsShortDelay delay × IsSmall e
  IsSmallStatement (source.Now name) = Unit {0}
  IsSmallStatement (source.Delay delay s) = (delay ≤ greatest_delay) × IsSmallStatement s
  IsSmallStatement (source.Await triggers s) = IsSmallStatement s
  IsSmallStatement (source.If c body) = IsSmall c × AreSmallStatements body
  IsSmallStatement (source.IfElse c body otherwise) = IsSmall c × AreSmallStatements body × AreSmallStatements otherwise
  IsSmallStatement (source.While c body) = IsSmall c × AreSmallStatements body
  IsSmallStatement (source.Print task format arguments) = AreSmall arguments
  IsSmallStatement (source.PrintPieces task pieces arguments) = AreSmall arguments
  IsSmallStatement source.Finish = Unit {0}

  pub AreSmallStatements : source.SourceStatements → Type 0
  AreSmallStatements source.End = Unit {0}
  AreSmallStatements (source.Then s ss) = IsSmallStatement s × AreSmallStatements ss

-- each process has a small body
abbrev pub AreSmallProcesses : List source.SourceProcess → Type 0
AreSmallProcesses [] = Unit {0}
AreSmallProcesses (p ∷ ps) = IsSmallStatement p.body × AreSmallProcesses ps
