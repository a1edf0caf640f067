-- What contracts see of a design: its registers, its tree, and its code.
use Rattle.std.specs.Prelude.{ℕ, List}
use Rattle.model.specs.Syntax.{Text}
use Rattle.model.specs.Design as model
use Rattle.model.specs.Design.{Trigger}
use Rattle.design.specs.declared.tree.Process.{Process}
use Rattle.design.specs.declared.code.Node.{Node}
use Rattle.design.specs.declared.code.Op.{Op}
use Rattle.design.specs.declared.code.LinePiece.{LinePiece}
use Rattle.design.specs.DesignTrees.{tree_design}

-- the names and the widths of the registers by number, the processes, the node at each place, the steps of expressions, the pieces
-- of lines, the triggers of each event control by its number, and where each process begins
pub record Compiled : Type 0 where
  pub names : List Text
  pub widths : List ℕ
  pub processes : List Process
  pub nodes : List Node
  pub ops : List Op
  pub shown : List LinePiece
  pub controls : List (List Trigger)
  pub starts : List ℕ

-- the design of the definitions
abbrev pub design_of : Compiled → model.Design
design_of c = tree_design c.widths c.processes
