-- What the tests say of a note.
use Rattle.std.proofs.Common.{◌∙◌, ℕ, List, ap, sym, subst}
use Rattle.model.specs.Turns.{contains}
use Rattle.footprints.specs.Footprints.{RegisterChange, changed_registers}
use Rattle.certificates.specs.Notes.{NoteView}
use Rattle.settling.specs.Waiting.{WaitsForNone}
use Rattle.loosewalks.proofs.Cones.{none_awaited, no_change_outside}
use Rattle.loosewalks.proofs.cone.note_keeps_off.Goals as goal

pub returns : goal.returns
returns c = λ on.
    let outputs = c.args.outputs.now in
    record {
      uses = λ r used. c.share.ensures.apart c.if-share.false r (ap (λ (l : List ℕ). contains l r) c.as_slice.ensures ∙ ap (λ (n : NoteView). contains n.uses r) c.note.view_is ∙ used);
      writes = λ r wrote. c.share-2.ensures.apart c.if-share-2.false r (ap (λ (l : List ℕ). contains l r) c.as_slice-2.ensures ∙ ap (λ (n : NoteView). contains n.writes r) c.note.view_is ∙ wrote);
      waits = subst (λ (n : NoteView). WaitsForNone n.awaits outputs) c.note.view_is (none_awaited c.note.inside.awaits outputs (sym c.is_any_awaited.ensures ∙ c.if-is_any_awaited.false));
      goes_on = sym (ap (λ (n : NoteView). n.finishes) c.note.view_is) ∙ c.if-note.false;
      changes = λ r change.
          no_change_outside c.args.touched.now c.as_slice-3.result.now (sym c.is_any_change_outside.ensures ∙ c.if-is_any_change_outside.false) r
          (ap (λ (cs : List RegisterChange). contains (changed_registers cs) r) c.as_slice-3.ensures ∙ ap (λ (n : NoteView). contains (changed_registers n.changes) r) c.note.view_is ∙ change);
    }
