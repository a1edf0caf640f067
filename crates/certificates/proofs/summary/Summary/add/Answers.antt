-- The marks are those of the note.
use Rattle.std.proofs.Common.{◌&&◌, ◌||◌, ◌∙◌, ap}
use Rattle.certificates.specs.Notes.{NoteView}
use Rattle.certificates.proofs.Tests.{and_parts, or_right}
use Rattle.certificates.proofs.Summaries.{is_summed}
use Rattle.certificates.proofs.summary.Summary.add.Goals as goal

pub returns-clause-summed : goal.returns-clause-summed
returns-clause-summed c =
    λ h.
    let marked = c.mark_all.new.self in
    let note = c.note.inside in
    let (held, told) = and_parts c.args.self.now.holds c.may_be_told.result h in
    is_summed c.args.self.now marked c.args.note.now (marked.prints || note.prints) (marked.strobes || note.strobes) (c.args.self.now.holds && c.may_be_told.result) c.in_ok-mark_all.ensures.marked
    (c.may_be_told.ensures.event told) (c.may_be_told.ensures.goes_on told)
    (λ k. or_right marked.prints note.prints (ap (λ (n : NoteView). n.prints) c.note.view_is ∙ k))
    (λ k. or_right marked.strobes note.strobes (ap (λ (n : NoteView). n.strobes) c.note.view_is ∙ k))
