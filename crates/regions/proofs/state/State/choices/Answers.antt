use Rattle.std.proofs.Common.{List, subst}
use Rattle.std.specs.Prelude.{◌≡◌, ◌↔◌, None}
use Rattle.std.specs.List.{Contains}
use Rattle.logic4.specs.Vector.{Vector}
use Rattle.model.specs.declared.entry.Entry.{Entry}
use Rattle.model.specs.Turns.{Remainder}
use Rattle.model.specs.Runs.{refusal}
use Rattle.design.specs.declared.code.ProcState.{ProcState}
use Rattle.regions.specs.Queue.{state_of}
use Rattle.regions.proofs.state.State.choices.Goals as goal

pub returns-clause-permitted : goal.returns-clause-permitted
returns-clause-permitted c =
    subst
    (λ core. (rem : ProcState → Remainder) (values : List Vector) (entry : Entry) → Contains c.choices.result entry ↔ (refusal (state_of rem values core) entry ≡ None))
    c.self.view_is c.choices.ensures.permitted
