-- The register of the update.
use Rattle.std.proofs.Common.{◌∙◌, ap, sym}
use Rattle.std.specs.List.{list_any}
use Rattle.model.specs.Turns.{contains}
use Rattle.steps.specs.declared.entry_account.EntryActor.{EntryActor}
use Rattle.explain.specs.Wanted.{updated_registers}
use Rattle.explain.proofs.LineRegisters.{or_false}
use Rattle.explain.proofs.wanted.updates_any.Goals as goal

pub returns-in-Update : goal.returns-in-Update
returns-in-Update c =
    c.has_register.ensures
    ∙ (sym (or_false (contains c.args.registers.now c.in-Update.register))
    ∙ ap (λ (a : EntryActor). list_any (contains c.args.registers.now) (updated_registers a)) (sym c.in-Update.is))
