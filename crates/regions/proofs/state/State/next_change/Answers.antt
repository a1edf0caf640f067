use Rattle.std.proofs.Common.{◌≡◌, List, Some, false, subst}
use Rattle.std.specs.Prelude.{◌↔◌, IsSome}
use Rattle.logic4.specs.Vector.{Vector}
use Rattle.model.specs.declared.entry.Entry.{Entry}
use Rattle.model.specs.Turns.{Remainder}
use Rattle.model.specs.Runs.{has_any, is_quiet}
use Rattle.design.specs.declared.code.ProcState.{ProcState}
use Rattle.regions.specs.Queue.{state_of}
use Rattle.regions.specs.Machine.{IsNextChange}
use Rattle.regions.proofs.state.State.next_change.Goals as goal

pub returns-clause-next : goal.returns-clause-next
returns-clause-next c =
    subst
    (λ core. (rem : ProcState → Remainder) (values : List Vector) (entry : Entry) → (c.next_change.result ≡ Some entry) ↔ IsNextChange (state_of rem values core) entry)
    c.self.view_is c.next_change.ensures.next

pub returns-clause-some : goal.returns-clause-some
returns-clause-some c =
    subst
    (λ core. (rem : ProcState → Remainder) (values : List Vector) → has_any core.active ≡ false → is_quiet (state_of rem values core) ≡ false → IsSome c.next_change.result)
    c.self.view_is c.next_change.ensures.some
