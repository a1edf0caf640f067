use Rattle.std.proofs.Common.{List, subst}
use Rattle.logic4.specs.Vector.{Vector}
use Rattle.model.specs.Turns.{Remainder}
use Rattle.design.specs.declared.code.ProcState.{ProcState}
use Rattle.regions.specs.Queue.{state_of}
use Rattle.regions.specs.Machine.{IsDue}
use Rattle.regions.proofs.state.State.due.Goals as goal

pub returns : goal.returns
returns c = subst (λ core. (rem : ProcState → Remainder) (values : List Vector) → IsDue (state_of rem values core) c.due.result) c.self.view_is c.due.ensures
