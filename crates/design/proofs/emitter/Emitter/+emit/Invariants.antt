use Rattle.std.proofs.Common.{◌≡◌, ◌+◌, length, drop}
use Rattle.model.specs.Design.{size}
use Rattle.design.specs.Sound.{AreSoundStatements}
use Rattle.design.specs.DesignTrees.{statements_of}
use Rattle.design.specs.Extents.{AreMeasured}
use Rattle.design.specs.Emit.{with_all}
use Rattle.design.specs.Emitter.{emitted_of}
use Rattle.design.proofs.emitter.Emitter.+emit.Given as goal

-- the code so far, and the statements that are left
abbrev pub invariant-emit_all-loop-index : goal.invariant-emit_all-loop-index
invariant-emit_all-loop-index l =
    (with_all l.widths l.after (emitted_of l.self) (statements_of (drop l.index l.statements))
    ≡ with_all l.widths l.after (emitted_of l.initial.self) (statements_of l.statements))
    × AreMeasured l.table (length l.self.nodes.items) (statements_of (drop l.index l.statements))
    × AreSoundStatements l.widths (statements_of (drop l.index l.statements))
    × (length l.self.nodes.items + size (statements_of (drop l.index l.statements)) ≡ length l.initial.self.nodes.items + size (statements_of l.statements))
