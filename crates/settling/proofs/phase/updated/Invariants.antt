-- The registers of the updates so far.
use Rattle.std.proofs.Common.{◌≡◌, ℕ, map, take}
use Rattle.logic4.specs.Vector.{Vector}
use Rattle.orders.specs.Alike.{updates_in}
use Rattle.regions.specs.Queue.{update_event}
use Rattle.settling.proofs.phase.updated.Given as goal

abbrev pub invariant-loop-at : goal.invariant-loop-at
invariant-loop-at l = l.registers.items ≡ map (λ (w : ℕ × Vector). w.0) (updates_in (map update_event (take l.at l.updates.items)))
