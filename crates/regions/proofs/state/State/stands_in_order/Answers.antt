-- What the queue keeps, whatever the values are.
use Rattle.std.proofs.Common.{List, length, subst}
use Rattle.logic4.specs.Vector.{Vector}
use Rattle.model.specs.Turns.{Remainder}
use Rattle.design.specs.declared.code.ProcState.{ProcState}
use Rattle.regions.specs.Queue.{Core, core_of, state_of}
use Rattle.regions.specs.Order.{IsOrdered}
use Rattle.regions.proofs.state.State.stands_in_order.Goals as goal

pub returns : goal.returns
returns c =
    let h = c.self.invariant.well_formed.ordered in
    subst (λ (core : Core). (rem : ProcState → Remainder) (values : List Vector) → IsOrdered core.widths (length core.processes) (state_of rem values core)) c.self.view_is
    (λ rem values. record { active = h.active; inactive = h.inactive; nonblocking = h.nonblocking; future_inactive = h.future_inactive; future_nonblocking = h.future_nonblocking })
