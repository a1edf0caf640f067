-- A journal that is known, of the very text.
use Rattle.std.proofs.Common.{ℕ, List, inr, subst}
use Rattle.std.specs.Prelude.{IfSome, Option}
use Rattle.std.specs.Global.{Vec}
use Rattle.model.specs.declared.entry.Entry.{Entry}
use Rattle.lawful.specs.Journals.{IsKnownJournal}
use Rattle.lawful.proofs.telling.LinesAloneRunTelling.journal.Goals as goal

pub returns-in-Some : goal.returns-in-Some
returns-in-Some c =
    let known = c.args.self.now.known.now in
    let end = c.args.shown.now.end in
    inr (subst (λ (text : List ℕ). IsKnownJournal known text end c.in-Some.journal.items) c.as_slice-2.ensures.value
    (subst (λ (found : Option (Vec Entry)). IfSome found (λ journal. IsKnownJournal known c.as_slice-2.result.now end journal.items)) c.in-Some.is c.in_ok-journal.ensures))
