-- The journal of what was seen so.
use Rattle.lawful.proofs.ArrangedTexts.{journal_arranged}
use Rattle.lawful.proofs.arranged_journals.arranged_journal.Goals as goal

pub returns : goal.returns
returns c code limits seen =
    let shown = c.args.shown.now in
    journal_arranged code limits c.args.observing.now c.args.found c.registers_of.result shown.text.items shown.end c.registers_of.ensures (c.in_ok-is_seen_so.ensures.text c.if-not-branch.false) (c.in_ok-is_seen_so.ensures.end c.if-not-branch.false) seen
