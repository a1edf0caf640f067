-- What the notes say makes the steps apart.
use Rattle.std.proofs.Common.{◌≡◌, false, ◌∙◌, ap, sym}
use Rattle.certificates.specs.Notes.{NoteView}
use Rattle.certificates.specs.Apart.{share}
use Rattle.certificates.proofs.Telling.{apart_by_notes}
use Rattle.certificates.proofs.apart.apart.Goals as goal

pub returns-clause-apart : goal.returns-clause-apart
returns-clause-apart c =
    let others = c.other.inside.assigns.items in
    let times : share c.args.one.now.assigns c.args.other.now.assigns ≡ false =
    ap (λ (n : NoteView). share n.assigns c.args.other.now.assigns) (sym c.one.view_is) ∙ ap (λ (n : NoteView). share c.one.inside.assigns.items n.assigns) (sym c.other.view_is)
    ∙ ap (λ xs. share xs others) (sym c.as_slice.ensures.value) ∙ ap (λ ys. share c.as_slice.result.now ys) (sym c.as_slice-2.ensures.value)
    ∙ sym c.share_a_time.ensures ∙ c.if-share_a_time.false in
    λ is. apart_by_notes c.args.one.now c.args.other.now (c.concern_others.ensures.so c.if-not-concern_others.false) (c.leave_registers.ensures.so c.if-not-leave_registers.false)
    (c.wakes_none_of.ensures.so c.if-not-wakes_none_of.false) (c.wakes_none_of-2.ensures.so c.if-not-wakes_none_of-2.false) times (c.tell_apart.ensures.so is)
