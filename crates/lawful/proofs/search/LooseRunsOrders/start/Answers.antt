-- The node at which each run starts.
use Rattle.std.proofs.Common.{◌≡◌, ◌∙◌, [], ap, refl, subst}
use Rattle.model.specs.States.{start}
use Rattle.design.specs.Compiled.{Compiled, design_of}
use Rattle.loose.specs.Classes.{class_in}
use Rattle.design.specs.DesignInvariant.{controls_of}
use Rattle.regions.specs.Machine.{MachineView}
use Rattle.lawful.specs.declared.node.LooseNode.{LooseNode}
use Rattle.lawful.proofs.Ways.{node_at_start}
use Rattle.lawful.proofs.search.LooseRunsOrders.start.Goals as goal

pub returns : goal.returns
returns g c =
    let o = c.args.self.now in
    let node : LooseNode = record { machine = c.in_ok-machine.machine; tail = c.new.result } in
    g.met.T.RunTelling.starts o.telling.now o.analyzed_design (class_in o.classes.items) o.limits node
    (node_at_start (class_in o.classes.items) o.analyzed_design o.limits node c.in_ok-machine.machine.value refl (c.in_ok-machine.ensures.code ∙ c.design.ensures)
    (subst (λ (p : MachineView). p.core.controls ≡ controls_of p.code) c.deref.ensures c.stands.ensures.controls) c.in_ok-machine.ensures.lines (c.in_ok-machine.ensures.state ∙ ap (λ (k : Compiled). start (design_of k)) c.design.ensures))
    c.new.ensures
