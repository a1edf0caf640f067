-- What was added has its journal.
use Rattle.std.proofs.Common.{subst}
use Rattle.std.specs.Prelude.{Option, IfSome}
use Rattle.model.specs.declared.entry.Entry.{Entry}
use Rattle.explore.specs.declared.Shown.{Shown}
use Rattle.lawful.specs.Journals.{IsShownLawfully}
use Rattle.lawful.proofs.journals.add_journal.Goals as goal

pub returns-in_ok-push-in-Some-clause-added : goal.returns-in_ok-push-in-Some-clause-added
returns-in_ok-push-in-Some-clause-added g c sure =
    (c.in-Some.one, c.in_ok-push-in-Some.ensures.items, subst (λ (o : Option (Shown Entry g.row.T-End.Denot)). IfSome o (IsShownLawfully (g.T.RunTelling.is_journal c.args.telling.now c.args.scope.design.now c.args.scope.limits) c.args.shown)) c.in-Some.is c.in_ok-one.ensures)
