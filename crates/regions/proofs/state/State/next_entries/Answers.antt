use Rattle.std.proofs.Common.{◌≡◌, List, subst}
use Rattle.std.specs.Prelude.{◌↔◌, IfOk, None}
use Rattle.std.specs.List.{Contains}
use Rattle.logic4.specs.Vector.{Vector}
use Rattle.model.specs.declared.entry.Entry.{Entry}
use Rattle.model.specs.Turns.{Remainder}
use Rattle.model.specs.Runs.{refusal}
use Rattle.design.specs.declared.code.ProcState.{ProcState}
use Rattle.regions.specs.Queue.{state_of}
use Rattle.regions.proofs.state.State.next_entries.Goals as goal

pub returns-clause-permitted : goal.returns-clause-permitted
returns-clause-permitted c =
    subst
    (λ core. IfOk c.next_entries.result (λ v. (rem : ProcState → Remainder) (values : List Vector) (entry : Entry) → Contains v.items entry ↔ (refusal (state_of rem values core) entry ≡ None)))
    c.self.view_is c.next_entries.ensures.permitted
