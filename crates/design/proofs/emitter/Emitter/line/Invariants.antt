use Rattle.std.proofs.Common.{◌≡◌, ◌+◌, length, map, drop}
use Rattle.model.specs.Elaboration.{argument_count}
use Rattle.design.specs.DesignTrees.{expressions_of}
use Rattle.model.specs.SourceTrees.{piece_of}
use Rattle.design.specs.Emit.{with_line_code}
use Rattle.design.specs.Emitter.{emitted_of}
use Rattle.design.proofs.emitter.Emitter.line.Given as goal

-- the line so far, and what is left of the format and of the arguments
abbrev pub invariant-loop-piece : goal.invariant-loop-piece
invariant-loop-piece l =
    (with_line_code l.widths (emitted_of l.self) (map piece_of (drop l.piece-index l.format)) (expressions_of (drop l.next l.arguments))
    ≡ with_line_code l.widths (emitted_of l.initial.self) (map piece_of l.format) (expressions_of l.arguments))
    × (l.next + argument_count (map piece_of (drop l.piece-index l.format)) ≡ length l.arguments)
    × (length l.self.nodes.items ≡ length l.initial.self.nodes.items)
