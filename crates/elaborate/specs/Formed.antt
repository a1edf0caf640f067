-- The trees that the program's trees stand for: by their types a literal has 1 to 128 digits (3.5.1), a size is one of a vector, and
-- a concatenation has at least one part (5.1.14).
use Rattle.std.specs.Prelude.{◌≤◌, List, [], ◌∷◌, length}
use Rattle.model.specs.Syntax as source
use Rattle.model.specs.Syntax.{Text, Expression, Register, Select, Literal, Concat, Unary, Binary, Conditional, Extend, Expressions, Nothing, Also}
use Rattle.logic4.specs.Vector.{greatest_width}

-- there is at least one expression
abbrev pub HasParts : Expressions Text → Type 0
HasParts Nothing = ⊥
HasParts (Also e es) = Unit {0}

-- each literal and each extension has 1 to 128 digits, and each concatenation has a part
abbrev mutual
  pub IsFormed : Expression Text → Type 0
  IsFormed (Register name) = Unit {0}
  IsFormed (Select name i) = Unit {0}
  IsFormed (Literal v) = (1 ≤ length v) × (length v ≤ greatest_width)
  IsFormed (Concat parts) = HasParts parts × AreFormed parts
  IsFormed (Unary op e) = IsFormed e
  IsFormed (Binary op e f) = IsFormed e × IsFormed f
  IsFormed (Conditional c e f) = IsFormed c × (IsFormed e × IsFormed f)
  IsFormed (Extend by size e) = (1 ≤ size) × (size ≤ greatest_width) × IsFormed e

  pub AreFormed : Expressions Text → Type 0
  AreFormed Nothing = Unit {0}
  AreFormed (Also e es) = IsFormed e × AreFormed es

-- each expression of the statements is formed
abbrev mutual
  pub IsFormedStatement : source.SourceStatement → Type 0
  IsFormedStatement source.Empty = Unit {0}
  IsFormedStatement (source.Block body) = AreFormedStatements body
  IsFormedStatement (source.Assign name delay e) = IsFormed e
  IsFormedStatement (source.AssignLater name delay e) = IsFormed e
  IsFormedStatement (source.Now name) = Unit {0}
  IsFormedStatement (source.Delay delay s) = IsFormedStatement s
  IsFormedStatement (source.Await triggers s) = IsFormedStatement s
  IsFormedStatement (source.If c body) = IsFormed c × AreFormedStatements body
  IsFormedStatement (source.IfElse c body otherwise) = IsFormed c × (AreFormedStatements body × AreFormedStatements otherwise)
  IsFormedStatement (source.While c body) = IsFormed c × AreFormedStatements body
  IsFormedStatement (source.Print task format arguments) = AreFormed arguments
  IsFormedStatement (source.PrintPieces task pieces arguments) = AreFormed arguments
  IsFormedStatement source.Finish = Unit {0}

  pub AreFormedStatements : source.SourceStatements → Type 0
  AreFormedStatements source.End = Unit {0}
  AreFormedStatements (source.Then s ss) = IsFormedStatement s × AreFormedStatements ss

-- each process has a formed body
abbrev pub AreFormedProcesses : List source.SourceProcess → Type 0
AreFormedProcesses [] = Unit {0}
AreFormedProcesses (p ∷ ps) = IsFormedStatement p.body × AreFormedProcesses ps
