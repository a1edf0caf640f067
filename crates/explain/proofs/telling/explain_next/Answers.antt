-- One entry more, or why the journal has a fault there.
use Rattle.std.proofs.Common.{◌+◌, refl, sym, subst}
use Rattle.std.specs.Prelude.{slice_index_or}
use Rattle.model.specs.declared.entry.Entry.TheVariants.{Turn}
use Rattle.replay.specs.declared.fault.Cause.{Cause}
use Rattle.steps.specs.declared.fault.StepFault.{StepFault}
use Rattle.steps.specs.ExplainerStanding.{IsNotExplained}
use Rattle.replay.specs.JournalFaults.{IsCauseOf}
use Rattle.explain.proofs.Next.{next_failure}
use Rattle.explain.proofs.Sending.{next_told}
use Rattle.explain.proofs.telling.explain_next.Goals as goal

-- These six are written out, since the search for them is long.
pub returns-in-Ok-clause-code : goal.returns-in-Ok-clause-code
returns-in-Ok-clause-code c = c.step.ensures.code

pub returns-in-Err-NotTaken-clause-code : goal.returns-in-Err-NotTaken-clause-code
returns-in-Err-NotTaken-clause-code c = c.step.ensures.code

pub returns-in-Err-Memory-clause-code : goal.returns-in-Err-Memory-clause-code
returns-in-Err-Memory-clause-code c = c.step.ensures.code

pub returns-in-Err-NotTaken-clause-at : goal.returns-in-Err-NotTaken-clause-at
returns-in-Err-NotTaken-clause-at c = refl

pub returns-in-Err-NotTaken-clause-state : goal.returns-in-Err-NotTaken-clause-state
returns-in-Err-NotTaken-clause-state c = c.in-Err-NotTaken.ensures.err

pub returns-in-Err-Memory-clause-state : goal.returns-in-Err-Memory-clause-state
returns-in-Err-Memory-clause-state c = c.in-Err-Memory.ensures.err

pub returns-in-Ok-clause-told : goal.returns-in-Ok-clause-told
returns-in-Ok-clause-told c =
    next_told c.args.entries.now c.args.at _ c.args.explainer.now c.step.new.self c.requires.inside c.requires.behind c.requires.entries c.in-Ok.ensures.told c.in-Ok.ensures.entries

pub returns-in-Err-NotTaken-clause-fault : goal.returns-in-Err-NotTaken-clause-fault
returns-in-Err-NotTaken-clause-fault c =
    subst (λ (cause : Cause). IsCauseOf c.args.explainer.now.position.code c.args.entries.now (c.args.at + 1) cause) (sym c.from.ensures)
    (next_failure c.args.entries.now c.args.at (Turn 0) c.args.explainer.now c.in-Err-NotTaken.fault c.requires.inside c.requires.behind c.requires.entries
    (subst (λ (f : StepFault). IsNotExplained c.args.explainer.now.position (slice_index_or c.args.entries.now c.args.at (Turn 0)) f) c.in-Err-NotTaken.field-0-is c.in-Err-NotTaken.ensures.fault))
