-- The node of a run, made again.
use Rattle.std.proofs.Common.{ℕ, List, ◌++◌, subst}
use Rattle.loose.specs.Classes.{class_in}
use Rattle.loose.specs.declared.transition.LooseTransition.{LooseTransition}
use Rattle.lawful.specs.declared.node.LooseNode.{LooseNode}
use Rattle.lawful.proofs.search.LooseRunsOrders.again.Goals as goal

pub returns : goal.returns
returns g c run other from whole =
    let o = c.args.self.now in
    subst (λ (cs : List ℕ). (run : List LooseTransition) (other : LooseNode) → (g.T.RunTelling.runs o.telling.now o.analyzed_design (class_in cs) o.limits).Stands c.args.from.now run
    → (g.T.RunTelling.runs o.telling.now o.analyzed_design (class_in cs) o.limits).Stands other (run ++ c.args.moves.now) → (g.T.RunTelling.runs o.telling.now o.analyzed_design (class_in cs) o.limits).Stands c.in_ok-node.node (run ++ c.args.moves.now))
    c.deref.ensures.value (c.in_ok-node.ensures o.analyzed_design o.limits) run other from whole
