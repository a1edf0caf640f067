-- The changes keep the widths.
use Rattle.std.proofs.Common.{List, ◌++◌, sym, ap, subst, ◌∙◌}
use Rattle.model.specs.Expressions.{Store}
use Rattle.footprints.specs.Footprints.{RegisterChange, changes_made}
use Rattle.certificates.specs.Notes.{NoteView}
use Rattle.noted.specs.NotedSteps.{KeepWidths}
use Rattle.noted.proofs.Behind.{keep_widths}
use Rattle.noted.proofs.turns.note_effects.Goals as goal

pub note_woken-requires : goal.note_woken-requires
note_woken-requires c =
    let writes = c.args.writes.now in
    let made = changes_made c.store.result.now writes in
    let none = ap (λ (n : NoteView). n.changes) c.note.view_is ∙ c.requires.none.changes in
    let keep = subst (λ (a : Store). KeepWidths (changes_made a writes)) (sym c.store.ensures) (keep_widths c.args.machine.now.values writes c.requires.writes) in
    subst (λ (cs : List RegisterChange). KeepWidths cs) (sym (c.in_ok-note_changes.ensures ∙ ap (λ (cs : List RegisterChange). cs ++ made) none)) keep
