-- The steps of a turn, as the machine makes them.
use Rattle.std.specs.Prelude.{◌≡◌, ℕ, ◌+◌, true, false, List, [], ◌∷◌, Option, Some, None, slice_get}
use Rattle.logic4.specs.Vector.{Vector, vector}
use Rattle.logic4.specs.Operators.{truth}
use Rattle.model.specs.declared.tree.Task.TheVariants.{Display, Strobe, Write}
use Rattle.design.specs.declared.code.Op.{Op}
use Rattle.design.specs.declared.code.Span.{Span}
use Rattle.design.specs.declared.code.LinePiece.{LinePiece}
use Rattle.design.specs.declared.code.Node.{Node}
use Rattle.design.specs.declared.code.Node.TheVariants as node
use Rattle.design.specs.declared.code.ProcState.{ProcState}
use Rattle.design.specs.ExpressionSteps.{span_of}
use Rattle.turn.specs.declared.log.Suspend.TheVariants.{Ended, Event}
use Rattle.turn.specs.declared.machine.Step.{Step}
use Rattle.turn.specs.declared.machine.Step.TheVariants.{Goes, Over, Ends}
use Rattle.turn.specs.RunningTurn.{Status, at, writing, holding, delaying, strobing, printing, WithValue, PrintsPieces, wait_for, chosen_place}

-- a blocking assignment
abbrev pub Assigns : List Op → Span → ℕ → ℕ → Status → Status → Type 0
Assigns ops span q next s s' = WithValue (span_of ops span) s (λ v m. s' ≡ writing m q v next)

-- a blocking assignment with a delay inside it
abbrev pub AssignsAfter : List Op → Span → ℕ → ℕ → Status → Status → Type 0
AssignsAfter ops span q next s s' = WithValue (span_of ops span) s (λ v m. s' ≡ holding m q v next)

-- a nonblocking assignment
abbrev pub AssignsLater : List Op → Span → ℕ → ℕ → ℕ → Status → Status → Type 0
AssignsLater ops span q due next s s' =
    WithValue (span_of ops span) s (λ v m. s' ≡ delaying m (record { reg = q; value = v; due = due }) next)

-- a test
abbrev pub Branches : List Op → Span → ℕ → ℕ → Status → Status → Type 0
Branches ops span taken missed s s' = WithValue (span_of ops span) s (λ v m. s' ≡ at m (chosen_place (truth v) taken missed))

-- a line
abbrev pub Displays : List Op → List LinePiece → Span → ℕ → Status → Status → Type 0
Displays ops shown span next s s' = (m : Status) × (PrintsPieces ops (span_of shown span) s m × (s' ≡ at (printing m (10 ∷ [])) next))

-- a text without a newline
abbrev pub PrintsText : List Op → List LinePiece → Span → ℕ → Status → Status → Type 0
PrintsText ops shown span next s s' = (m : Status) × (PrintsPieces ops (span_of shown span) s m × (s' ≡ at m next))

-- what a node does
abbrev pub TakesNode : List Op → List LinePiece → ℕ → Node → Status → Step → Status → Type 0
TakesNode ops shown now node.Over s r s' = (r ≡ Over) × (s' ≡ s)
TakesNode ops shown now (node.Restart first) s r s' = (r ≡ Goes) × (s' ≡ at s first)
TakesNode ops shown now (node.Skip next) s r s' = (r ≡ Goes) × (s' ≡ at s next)
TakesNode ops shown now (node.Assign q span next) s r s' = (r ≡ Goes) × Assigns ops span q next s s'
TakesNode ops shown now (node.AssignAfter q delay span next) s r s' = (r ≡ Ends (wait_for now delay) false) × AssignsAfter ops span q next s s'
TakesNode ops shown now (node.AssignLater q delay span next) s r s' = (r ≡ Goes) × AssignsLater ops span q (now + delay) next s s'
TakesNode ops shown now (node.Now q digits next) s r s' = (r ≡ Goes) × (s' ≡ writing s q (vector digits now) next)
TakesNode ops shown now (node.Delay delay next) s r s' = (r ≡ Ends (wait_for now delay) false) × (s' ≡ at s next)
TakesNode ops shown now (node.Await control next) s r s' = (r ≡ Ends (Event control) false) × (s' ≡ at s next)
TakesNode ops shown now (node.Branch condition taken missed) s r s' = (r ≡ Goes) × Branches ops condition taken missed s s'
TakesNode ops shown now (node.Print Display span next) s r s' = (r ≡ Goes) × Displays ops shown span next s s'
TakesNode ops shown now (node.Print Write span next) s r s' = (r ≡ Goes) × PrintsText ops shown span next s s'
TakesNode ops shown now (node.Print Strobe span next) s r s' = (r ≡ Goes) × (s' ≡ strobing s next)
TakesNode ops shown now (node.Finish next) s r s' = (r ≡ Ends Ended true) × (s' ≡ at s next)

-- what is done at a place where there is this node, or none
abbrev pub TakesSome : List Op → List LinePiece → ℕ → Option Node → Status → Step → Status → Type 0
TakesSome ops shown now None s r s' = (r ≡ Over) × (s' ≡ s)
TakesSome ops shown now (Some node) s r s' = TakesNode ops shown now node s r s'

-- what is done where this assignment is left over, or none
abbrev pub TakesPending : List Node → List Op → List LinePiece → ℕ → Option (ℕ × Vector) → Status → Step → Status → Type 0
TakesPending nodes ops shown now (Some w) s r s' = (r ≡ Goes) × (s' ≡ writing s w.0 w.1 s.state.place)
TakesPending nodes ops shown now None s r s' = TakesSome ops shown now (slice_get nodes s.state.place) s r s'

-- one step
abbrev pub TakesStep : List Node → List Op → List LinePiece → ℕ → Status → Step → Status → Type 0
TakesStep nodes ops shown now s r s' = TakesPending nodes ops shown now s.state.pending s r s'

-- the end of an initial construct
abbrev pub IsEndNode : Option Node → Type 0
IsEndNode (Some node.Over) = Unit {0}
IsEndNode _ = ⊥

-- nothing is left of an initial construct
abbrev pub IsAtEnd : List Node → ProcState → Type 0
IsAtEnd nodes state = (state.pending ≡ None) × IsEndNode (slice_get nodes state.place)
