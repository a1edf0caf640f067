use Rattle.std.proofs.Common.{ℕ, ◌<◌, get_or}
use Rattle.explore.specs.Links.{GoesBack}
use Rattle.explore.specs.declared.links.SearchEdge.{SearchEdge}
use Rattle.explore.proofs.endless.are_edges_marked.Given as goal

abbrev pub invariant-loop-edge : goal.invariant-loop-edge
invariant-loop-edge l = (k : ℕ) (d : SearchEdge) → k < l.edge-index → GoesBack l.marks (get_or l.edges k d)
