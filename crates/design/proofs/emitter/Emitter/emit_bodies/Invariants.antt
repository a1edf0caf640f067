use Rattle.std.proofs.Common.{◌≡◌, ◌+◌, ◌++◌, length, map, drop}
use Rattle.design.specs.DesignTrees.{process_of}
use Rattle.design.specs.Extents.{IsMeasured}
use Rattle.design.specs.Emit.{with_bodies, starts_of}
use Rattle.design.specs.Emitter.{emitted_of}
use Rattle.design.proofs.emitter.Emitter.emit_bodies.Given as goal

-- the code so far, and the processes that are left
abbrev pub invariant-loop-index : goal.invariant-loop-index
invariant-loop-index l =
    (with_bodies l.widths (l.end + l.index) (emitted_of l.self) (map process_of (drop l.index l.processes))
    ≡ with_bodies l.widths l.end (emitted_of l.initial.self) (map process_of l.processes))
    × (l.starts.items ++ starts_of (length l.self.nodes.items) (l.end + l.index) (map process_of (drop l.index l.processes))
    ≡ starts_of (length l.initial.self.nodes.items) l.end (map process_of l.processes))
    × IsMeasured l.table (length l.self.nodes.items) (map process_of (drop l.index l.processes))
