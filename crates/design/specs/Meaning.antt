-- What code means: the node at a place does what the first part of the remainder at that place does.
use Rattle.std.specs.Prelude.{◌≡◌, ◌⊎◌, ℕ, ◌+◌, ◌<◌, true, false, List, [], ◌∷◌, ◌++◌, length, Some, slice_get, slice_index}
use Rattle.std.specs.List.{All}
use Rattle.model.specs.Syntax.{Expression, Expressions, Nothing, Also, registers_of}
use Rattle.model.specs.Design as tree
use Rattle.model.specs.Design.{Design, Statements, statement_at, process_at, size}
use Rattle.model.specs.Syntax.{Piece, Byte, Argument}
use Rattle.model.specs.Expressions.{own_value, assigned_value}
use Rattle.model.specs.Turns.{Remainder, At, parts, whole}
use Rattle.design.specs.declared.code.Op.{Op}
use Rattle.design.specs.declared.code.LinePiece.{LinePiece}
use Rattle.design.specs.declared.code.LinePiece.TheVariants as shown
use Rattle.design.specs.declared.code.Node.{Node}
use Rattle.design.specs.declared.code.Node.TheVariants as node
use Rattle.design.specs.Sound.{IsSound}
use Rattle.design.specs.ExpressionSteps.{IsOpOf, Computes, span_of}
use Rattle.design.specs.CodePlaces.{remainder_at, IsPlaceOf, statement_count}
use Rattle.design.specs.Compiled.{Compiled, design_of}

-- the two ways of a test: into a body or past it (9.4, 9.6)
abbrev pub IsTest : Design → ℕ → Expression ℕ → Remainder → Remainder → Remainder → Type 0
IsTest design place c rest first second =
    ((body : Statements) × ((otherwise : Statements) × (
    (statement_at design place ≡ tree.If c body otherwise)
    × (first ≡ parts (place + 1) body ++ rest)
    × (second ≡ parts (place + 1 + size body) otherwise ++ rest))))
    ⊎ ((body : Statements) × (
    (statement_at design place ≡ tree.While c body)
    × (first ≡ parts (place + 1) body ++ At place ∷ rest)
    × (second ≡ rest)))

-- these pieces of lines are those of a format, each conversion with the steps of its argument (17.1.1)
abbrev pub IsLine : List ℕ → List Op → List LinePiece → List Piece → Expressions ℕ → Type 0
IsLine widths ops [] [] Nothing = Unit {0}
IsLine widths ops (shown.Byte b ∷ ss) (Byte c ∷ ps) es = (b ≡ c) × IsLine widths ops ss ps es
IsLine widths ops (shown.Value conversion span ∷ ss) (Argument c ∷ ps) (Also e es) =
    (conversion ≡ c) × Computes (span_of ops span) (λ values. own_value widths values e) (registers_of e) × IsLine widths ops ss ps es
IsLine widths ops ss ps es = ⊥

-- A node of the process with number p does what the first part of this remainder does, and leads to places of the
-- process whose remainders are what is left.
abbrev pub IsFine : Compiled → ℕ → Node → Remainder → Type 0
IsFine code p node.Over left = (left ≡ []) × ((process_at (design_of code) p).repeats ≡ false)
IsFine code p (node.Restart first) left =
    (left ≡ []) × ((process_at (design_of code) p).repeats ≡ true)
    × (remainder_at (design_of code) first ≡ whole (design_of code) p) × IsPlaceOf (design_of code) p first
IsFine code p (node.Skip next) left =
    (place : ℕ) × ((left ≡ At place ∷ remainder_at (design_of code) next)
    × (statement_at (design_of code) place ≡ tree.Empty) × IsPlaceOf (design_of code) p next)
IsFine code p (node.Assign q span next) left =
    (place : ℕ) × ((e : Expression ℕ) × (
    (left ≡ At place ∷ remainder_at (design_of code) next)
    × (statement_at (design_of code) place ≡ tree.Assign q e)
    × Computes (span_of code.ops span) (λ values. assigned_value code.widths values q e) (registers_of e)
    × (q < length code.widths)
    × IsPlaceOf (design_of code) p next))
IsFine code p (node.AssignAfter q delay span next) left =
    (place : ℕ) × ((e : Expression ℕ) × (
    (left ≡ At place ∷ remainder_at (design_of code) next)
    × (statement_at (design_of code) place ≡ tree.AssignAfter q delay e)
    × Computes (span_of code.ops span) (λ values. assigned_value code.widths values q e) (registers_of e)
    × (q < length code.widths)
    × IsPlaceOf (design_of code) p next))
IsFine code p (node.AssignLater q delay span next) left =
    (place : ℕ) × ((e : Expression ℕ) × (
    (left ≡ At place ∷ remainder_at (design_of code) next)
    × (statement_at (design_of code) place ≡ tree.AssignLater q delay e)
    × Computes (span_of code.ops span) (λ values. assigned_value code.widths values q e) (registers_of e)
    × (q < length code.widths)
    × IsPlaceOf (design_of code) p next))
IsFine code p (node.Now q digits next) left =
    (place : ℕ) × ((left ≡ At place ∷ remainder_at (design_of code) next)
    × (statement_at (design_of code) place ≡ tree.Now q)
    × (digits ≡ slice_index code.widths q)
    × (q < length code.widths)
    × IsPlaceOf (design_of code) p next)
IsFine code p (node.Delay delay next) left =
    (place : ℕ) × ((body : Statements) × ((rest : Remainder) × (
    (left ≡ At place ∷ rest)
    × (statement_at (design_of code) place ≡ tree.Delay delay body)
    × (remainder_at (design_of code) next ≡ parts (place + 1) body ++ rest)
    × IsPlaceOf (design_of code) p next)))
IsFine code p (node.Await control next) left =
    (place : ℕ) × ((body : Statements) × ((rest : Remainder) × ((triggers : List tree.Trigger) × (
    (left ≡ At place ∷ rest)
    × (slice_get code.controls control ≡ Some triggers)
    × (statement_at (design_of code) place ≡ tree.Await triggers body)
    × (remainder_at (design_of code) next ≡ parts (place + 1) body ++ rest)
    × IsPlaceOf (design_of code) p next))))
IsFine code p (node.Branch span taken missed) left =
    (place : ℕ) × ((c : Expression ℕ) × ((rest : Remainder) × (
    (left ≡ At place ∷ rest)
    × Computes (span_of code.ops span) (λ values. own_value code.widths values c) (registers_of c)
    × IsTest (design_of code) place c rest (remainder_at (design_of code) taken) (remainder_at (design_of code) missed)
    × IsPlaceOf (design_of code) p taken
    × IsPlaceOf (design_of code) p missed)))
IsFine code p (node.Print task span next) left =
    (place : ℕ) × ((format : List Piece) × ((arguments : Expressions ℕ) × (
    (left ≡ At place ∷ remainder_at (design_of code) next)
    × (statement_at (design_of code) place ≡ tree.Print task format arguments)
    × IsLine code.widths code.ops (span_of code.shown span) format arguments
    × IsPlaceOf (design_of code) p next)))
IsFine code p (node.Finish next) left =
    (place : ℕ) × ((left ≡ At place ∷ remainder_at (design_of code) next)
    × (statement_at (design_of code) place ≡ tree.Finish) × IsPlaceOf (design_of code) p next)

-- Code and tree of a design belong together: there is a node for each statement and for the end of each process, each
-- node is fine, each step reads a declared register, and each process begins at the place of its whole body.
pub record IsCompiled (code : Compiled) : Type 0 where
  pub sound : IsSound (design_of code)
  pub named : length code.names ≡ length code.widths
  pub count : length code.nodes ≡ statement_count (design_of code) + length code.processes
  pub fine : (p place : ℕ) (n : Node) → p < length code.processes → IsPlaceOf (design_of code) p place
      → slice_get code.nodes place ≡ Some n → IsFine code p n (remainder_at (design_of code) place)
  pub ops : All (IsOpOf (length code.widths)) code.ops
  pub begins : length code.starts ≡ length code.processes
  pub starts : (p place : ℕ) → slice_get code.starts p ≡ Some place
      → IsPlaceOf (design_of code) p place × (remainder_at (design_of code) place ≡ whole (design_of code) p)
