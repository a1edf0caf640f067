-- The nodes that are made of statements, in the order of the text.
use Rattle.std.specs.Prelude.{ℕ, ◌+◌, Bool, true, false, List, [], ◌∷◌, ◌++◌, length, slice_index}
use Rattle.model.specs.declared.tree.Task.{Task}
use Rattle.model.specs.Syntax.{Expressions, Nothing, Also}
use Rattle.model.specs.Design as tree
use Rattle.model.specs.Design.{Process, Statement, Statements, End, Then, Trigger, inside, size}
use Rattle.model.specs.Syntax.{Piece, Byte, Argument}
use Rattle.design.specs.declared.code.Op.{Op}
use Rattle.design.specs.declared.code.Span.{Span}
use Rattle.design.specs.declared.code.LinePiece.{LinePiece}
use Rattle.design.specs.declared.code.LinePiece.TheVariants as shown
use Rattle.design.specs.declared.code.Node.{Node}
use Rattle.design.specs.declared.code.Node.TheVariants as node
use Rattle.design.specs.Generate.{own_code, assigned_code}

-- the code so far
pub record Emitted : Type 0 where
  pub nodes : List Node
  pub ops : List Op
  pub shown : List LinePiece
  pub controls : List (List Trigger)

-- one node more
abbrev pub with_node : Emitted → Node → Emitted
with_node e n = record e { nodes = e.nodes ++ n ∷ [] }

-- these steps more
abbrev pub with_ops : Emitted → List Op → Emitted
with_ops e code = record e { ops = e.ops ++ code }

-- one piece of a line more
abbrev pub with_shown : Emitted → LinePiece → Emitted
with_shown e s = record e { shown = e.shown ++ s ∷ [] }

-- one event control more
abbrev pub with_control : Emitted → List Trigger → Emitted
with_control e triggers = record e { controls = e.controls ++ triggers ∷ [] }

-- where these steps stand behind others
abbrev pub span_behind : List Op → List Op → Span
span_behind ops code = record { from = length ops; to = length (ops ++ code) }

-- the place of the first of these statements, which would stand here, or the place behind them where there are none
abbrev pub first_of : ℕ → Statements → ℕ → ℕ
first_of place End after = after
first_of place (Then s ss) after = place

-- the place to which the first of these statements leads, which stands here
abbrev pub next_of : ℕ → Statements → ℕ → ℕ
next_of place End after = after
next_of place (Then s ss) after = first_of (place + 1 + length (inside s)) ss after

-- the code with the pieces of a line, and the steps of its arguments
abbrev pub with_line_code : List ℕ → Emitted → List Piece → Expressions ℕ → Emitted
with_line_code widths e [] es = e
with_line_code widths e (Byte b ∷ ps) es = with_line_code widths (with_shown e (shown.Byte b)) ps es
with_line_code widths e (Argument c ∷ ps) Nothing = e
with_line_code widths e (Argument c ∷ ps) (Also x es) =
    with_line_code widths
    (with_shown (with_ops e (own_code widths x)) (shown.Value c (span_behind e.ops (own_code widths x)))) ps es

-- the code with a node that has a value
abbrev pub with_valued : Emitted → List Op → (Span → Node) → Emitted
with_valued e code made = with_node (with_ops e code) (made (span_behind e.ops code))

-- the code with a line, and then its node
abbrev pub with_print : Task → Emitted → Emitted → ℕ → Emitted
with_print task before e next = with_node e (node.Print task (record { from = length before.shown; to = length e.shown }) next)

abbrev mutual
  -- the code with the nodes of a statement and of those inside it, where the next place is that to which it leads
  pub with_statement : List ℕ → ℕ → Emitted → Statement → Emitted
  with_statement widths next e tree.Empty = with_node e (node.Skip next)
  with_statement widths next e (tree.Assign r x) = with_valued e (assigned_code widths r x) (λ s. node.Assign r s next)
  with_statement widths next e (tree.AssignAfter r delay x) = with_valued e (assigned_code widths r x) (λ s. node.AssignAfter r delay s next)
  with_statement widths next e (tree.AssignLater r delay x) = with_valued e (assigned_code widths r x) (λ s. node.AssignLater r delay s next)
  with_statement widths next e (tree.Now r) = with_node e (node.Now r (slice_index widths r) next)
  with_statement widths next e (tree.Delay delay body) =
      with_all widths next (with_node e (node.Delay delay (first_of (length e.nodes + 1) body next))) body
  with_statement widths next e (tree.Await triggers body) =
      with_all widths next (with_node (with_control e triggers) (node.Await (length e.controls) (first_of (length e.nodes + 1) body next))) body
  with_statement widths next e (tree.If c body otherwise) =
      with_all widths next
      (with_all widths next
      (with_valued e (own_code widths c)
      (λ s. node.Branch s (first_of (length e.nodes + 1) body next) (first_of (length e.nodes + 1 + size body) otherwise next)))
      body) otherwise
  with_statement widths next e (tree.While c body) =
      with_all widths (length e.nodes)
      (with_valued e (own_code widths c) (λ s. node.Branch s (first_of (length e.nodes + 1) body (length e.nodes)) next)) body
  with_statement widths next e (tree.Print task format arguments) = with_print task e (with_line_code widths e format arguments) next
  with_statement widths next e tree.Finish = with_node e (node.Finish next)

  -- the code with the nodes of statements, where the last of them leads to the place behind them
  pub with_all : List ℕ → ℕ → Emitted → Statements → Emitted
  with_all widths after e End = e
  with_all widths after e (Then s ss) =
      with_all widths after (with_statement widths (first_of (length e.nodes + 1 + length (inside s)) ss after) e s) ss

-- the code with the nodes of the statements of processes, where the first of them ends at this place
abbrev pub with_bodies : List ℕ → ℕ → Emitted → List Process → Emitted
with_bodies widths end e [] = e
with_bodies widths end e (p ∷ ps) = with_bodies widths (end + 1) (with_all widths end e p.body) ps

-- where processes begin, where the first statement stands at one place, and the first of them ends at the other
abbrev pub starts_of : ℕ → ℕ → List Process → List ℕ
starts_of place end [] = []
starts_of place end (p ∷ ps) = first_of place p.body end ∷ starts_of (place + size p.body) (end + 1) ps

-- the node of the end of a process that begins at a place
abbrev pub end_node : Bool → ℕ → Node
end_node true first = node.Restart first
end_node false first = node.Over

-- the nodes of the ends of processes, which begin at these places
abbrev pub end_nodes : List Process → List ℕ → List Node
end_nodes [] starts = []
end_nodes (p ∷ ps) [] = []
end_nodes (p ∷ ps) (start ∷ starts) = end_node p.repeats start ∷ end_nodes ps starts

-- no code
abbrev pub nothing_yet : Emitted
nothing_yet = record { nodes = []; ops = []; shown = []; controls = [] }

-- the code of processes: their statements, and behind all of them the ends, the first of them at this place
abbrev pub all_code : List ℕ → ℕ → List Process → Emitted
all_code widths end ps =
    record (with_bodies widths end nothing_yet ps) { nodes = (with_bodies widths end nothing_yet ps).nodes ++ end_nodes ps (starts_of 0 end ps) }
