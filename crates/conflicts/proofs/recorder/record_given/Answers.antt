-- The entry is the turn.
use Rattle.std.proofs.Common.{sym, ◌∙◌, ap}
use Rattle.model.specs.declared.entry.Entry.{Entry}
use Rattle.model.specs.Runs.{refusal}
use Rattle.regions.specs.Machine.{state_at}
use Rattle.conflicts.proofs.recorder.record_given.Goals as goal

pub recorder_turn-requires : goal.recorder_turn-requires
recorder_turn-requires c =
    (c.requires.0, ap (λ (e : Entry). refusal (state_at c.args.run.now.machine) e) (sym c.in-Turn.is) ∙ c.requires.1)
