-- The step keeps off all of them.
use Rattle.std.proofs.Common.{◌∙◌, ap, sym}
use Rattle.certificates.specs.Notes.{NoteView}
use Rattle.certificates.proofs.Summaries.{come_of_none}
use Rattle.certificates.proofs.certificate.still_certifies.Goals as goal

pub returns-then-keeps_off-clause-apart : goal.returns-then-keeps_off-clause-apart
returns-then-keeps_off-clause-apart c =
    let off = c.keeps_off.ensures c.if-keeps_off.true in
    λ is.
    come_of_none c.args.summary.now c.args.notes.now c.args.last.now (c.requires.summed off.holds) off
    (sym (ap (λ (n : NoteView). n.finishes) c.last.view_is) ∙ c.if-last.false)
