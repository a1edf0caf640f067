-- The first of the entries that the rules permit.
use Rattle.std.proofs.Common.{◌≡◌, None}
use Rattle.model.specs.Runs.{refusal}
use Rattle.regions.specs.Machine.{state_at}
use Rattle.runs.proofs.Choosing.{one_of}
use Rattle.conflicts.proofs.transitions.first_entry.Goals as goal

pub returns : goal.returns
returns c =
    one_of (λ entry. refusal (state_at c.args.machine.now) entry ≡ None) c.choices-choices.result c.get.result 0 c.get.ensures
    (λ entry there. (c.choices-choices.ensures.permitted entry).0 there)
