-- The time of a node is that of its machine.
use Rattle.std.proofs.Common.{◌∙◌, ap}
use Rattle.regions.specs.Machine.{MachineView}
use Rattle.lawful.proofs.search.LooseRunsOrders.time.Goals as goal

pub returns : goal.returns
returns g c = c.time.ensures ∙ ap (λ (p : MachineView). p.core.time) c.deref.ensures
