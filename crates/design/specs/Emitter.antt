-- The code so far of the type that makes it, and the nodes that it makes of assignments.
use Rattle.std.specs.Prelude.{ℕ}
use Rattle.design.specs.declared.code.Node.{Node}
use Rattle.design.specs.declared.code.Node.TheVariants as node
use Rattle.design.specs.declared.code.Span.{Span}
use Rattle.design.specs.declared.emitter.Emitter.{Emitter}
use Rattle.design.specs.declared.emitter.AssignmentKind.{AssignmentKind}
use Rattle.design.specs.declared.emitter.AssignmentKind.TheVariants.{AtOnce, After, Later}
use Rattle.design.specs.Emit.{Emitted}

-- its four lists
abbrev pub emitted_of : Emitter → Emitted
emitted_of e = record { nodes = e.nodes.items; ops = e.ops.items; shown = e.shown.items; controls = e.controls.items }

-- the node of an assignment whose value comes into its register in this manner
abbrev pub assign_node : AssignmentKind → ℕ → Span → ℕ → Node
assign_node AtOnce r s next = node.Assign r s next
assign_node (After delay) r s next = node.AssignAfter r delay s next
assign_node (Later delay) r s next = node.AssignLater r delay s next
