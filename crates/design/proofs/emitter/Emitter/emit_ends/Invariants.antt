use Rattle.std.proofs.Common.{◌≡◌, ◌++◌, map, drop}
use Rattle.design.specs.DesignTrees.{process_of}
use Rattle.design.specs.Emit.{end_nodes}
use Rattle.design.specs.Emitter.{emitted_of}
use Rattle.design.proofs.emitter.Emitter.emit_ends.Given as goal

-- the nodes so far, and those that are left
abbrev pub invariant-loop-index : goal.invariant-loop-index
invariant-loop-index l =
    (l.self.nodes.items ++ end_nodes (map process_of (drop l.index l.processes)) (drop l.index l.starts)
    ≡ l.initial.self.nodes.items ++ end_nodes (map process_of l.processes) l.starts)
    × (emitted_of l.self ≡ record (emitted_of l.initial.self) { nodes = l.self.nodes.items })
