-- Lines of the monitor region, made by the values that a reader gives.
use Rattle.std.specs.Prelude.{◌≡◌, ℕ, List, [], ◌∷◌, length, flat_map, Option, Some}
use Rattle.model.specs.declared.tree.Task.TheVariants.{Strobe}
use Rattle.model.specs.Syntax.{all_registers_of}
use Rattle.model.specs.Design.{Design, Statement, Print, statement_at}
use Rattle.model.specs.Expressions.{Store}
use Rattle.model.specs.Turns.{with_uses}
use Rattle.model.specs.Runs.{strobe_lines_at}
use Rattle.design.specs.declared.code.Op.{Op}
use Rattle.design.specs.declared.code.LinePiece.{LinePiece}
use Rattle.design.specs.declared.code.Node.{Node}
use Rattle.design.specs.declared.code.Node.TheVariants as node
use Rattle.design.specs.ExpressionSteps.{span_of}
use Rattle.design.specs.Compiled.{Compiled, design_of}
use Rattle.turn.specs.declared.memory.Seen.{Seen}
use Rattle.turn.specs.Reads.{registers, Agrees}
use Rattle.turn.specs.RunningTurn.{Status, printing, PrintsPieces}

-- the line of a node is printed, where that is a $strobe statement's
abbrev pub PrintsStrobe : List Op → List LinePiece → Option Node → Status → Status → Type 0
PrintsStrobe ops shown (Some (node.Print Strobe span next)) s s' =
    (m : Status) × (PrintsPieces ops (span_of shown span) s m × (s' ≡ printing m (10 ∷ [])))
PrintsStrobe ops shown o s s' = s' ≡ s

-- the registers that the line of a $strobe statement uses; none where none stands there
abbrev pub strobe_uses : Statement → List ℕ
strobe_uses (Print Strobe format arguments) = all_registers_of arguments
strobe_uses _ = []

-- the registers that the lines of the $strobe statements at these places use, in the order of first use
abbrev pub strobe_uses_at : Design → List ℕ → List ℕ
strobe_uses_at design places = with_uses [] [] (flat_map (λ place. strobe_uses (statement_at design place)) places)

-- The text has the lines of the $strobe statements at these places, on each store of the design that agrees with the reads;
-- and these are what the lines use.
pub record AreStrobeLines (code : Compiled) (places : List ℕ) (reads : List (ℕ × Seen)) (text : List ℕ) : Type 0 where
  pub lines : (store : Store) → length store ≡ length code.widths → Agrees reads store → text ≡ strobe_lines_at (design_of code) store places
  pub uses : registers reads ≡ strobe_uses_at (design_of code) places
