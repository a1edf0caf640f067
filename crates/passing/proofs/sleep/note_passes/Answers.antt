-- None of the note's changes is barred.
use Rattle.std.proofs.Common.{◌≡◌, ◌∙◌, Bool, true, false, List, refl, sym, subst}
use Rattle.std.specs.Prelude.{not}
use Rattle.footprints.specs.Footprints.{RegisterChange}
use Rattle.certificates.specs.Notes.{NoteView}
use Rattle.heldways.specs.Passing.{AllPass}
use Rattle.passing.specs.Moves.{passes_by}
use Rattle.passing.proofs.Written.{none_barred}
use Rattle.passing.proofs.sleep.note_passes.Goals as goal

not_true : (b : Bool) → not b ≡ true → b ≡ false
not_true true h = sym h
not_true false h = refl

pub returns : goal.returns
returns c = λ on.
    let passes = passes_by c.args.moves.now in
    subst (λ (n : NoteView). AllPass passes n.changes) c.note.view_is
    (subst (λ (cs : List RegisterChange). AllPass passes cs) c.as_slice.ensures (none_barred passes c.as_slice.result.now (sym c.is_any_barred.ensures ∙ not_true c.is_any_barred.result on)))
