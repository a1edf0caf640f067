use Rattle.std.proofs.Common.{subst, List, inl, inr}
use Rattle.std.specs.List.{All}
use Rattle.explore.specs.Links.{GoesBack}
use Rattle.explore.specs.Pieces.{pieces}
use Rattle.explore.specs.declared.links.SearchEdge.{SearchEdge}
use Rattle.explore.proofs.Edges.{unmarked_within, step_within, edge_goes_back}
use Rattle.explore.proofs.endless.are_closed.Goals as goal

pub returns : goal.returns
returns g c yes_it_is =
    let marks = c.args.marks.now in
    let steps = pieces c.args.lineage.now.steps in
    let edges = c.args.links.now.edges.items in
    let back : All (GoesBack marks) edges = subst (λ (l : List SearchEdge). All (GoesBack marks) l) c.deref.ensures.value (c.are_edges_marked.ensures yes_it_is) in
    record {
      ends = λ k none. c.are_ends_marked.ensures c.if-not-are_ends_marked.false k (unmarked_within marks k none) none;
      linked = λ from to link none. elim link [
        | inl step ↦ c.are_steps_marked.ensures c.if-not-are_steps_marked.false from to (step_within steps from to step) step none
        | inr edge ↦ edge_goes_back marks edges from to back edge none
      ];
    }
