-- The journal that is found, where the same is seen of it.
use Rattle.std.proofs.Common.{subst}
use Rattle.std.specs.Prelude.{IfSome, Option}
use Rattle.std.specs.Global.{Vec}
use Rattle.model.specs.declared.entry.Entry.{Entry}
use Rattle.observers.specs.Observers.{observer_of}
use Rattle.loosejournals.specs.FoundJournals.{IsSeenJournal}
use Rattle.loosejournals.specs.declared.observed.SeenJournal.{SeenJournal}
use Rattle.lawful.specs.ArrangedNodes.{IsArrangedJournalOf}
use Rattle.lawful.proofs.ArrangedTexts.{found_arranged}
use Rattle.lawful.proofs.telling.ObservingRunTelling.journal.Goals as goal

pub returns-in-Some : goal.returns-in-Some
returns-in-Some c =
    let observing = c.args.self.now in
    let shown = c.args.shown.now in
    let code = c.args.scope.design.now in
    let limits = c.args.scope.limits in
    found_arranged (λ k l. IsSeenJournal k l (observer_of observing) c.in-Some.seen) (λ k l (j : Vec Entry). IsArrangedJournalOf k l observing shown.text.items shown.end j.items) code limits c.arranged_journal.result
    (subst (λ (o : Option SeenJournal). IfSome o (IsSeenJournal code limits (observer_of observing))) c.in-Some.is c.in_ok-found.ensures) c.arranged_journal.ensures
