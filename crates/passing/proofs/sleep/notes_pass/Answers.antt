-- The changes of one note more.
use Rattle.std.proofs.Common.{◌<◌, length, subst, arith}
use Rattle.std.proofs.lemmas.List.{get_or_default}
use Rattle.certificates.specs.Notes.{NoteView}
use Rattle.settling.proofs.Listed.{upto_more}
use Rattle.heldways.specs.Passing.{AllPass}
use Rattle.passing.specs.Moves.{passes_by}
use Rattle.passing.proofs.sleep.notes_pass.Goals as goal

pub loop-place-preserved : goal.loop-place-preserved
loop-place-preserved c =
    let notes = c.args.notes.now in
    let i = c.loop-place.place in
    let within : i < length notes = omega arith in
    let passes = passes_by c.args.moves.now in
    let Is = λ (n : NoteView). AllPass passes n.changes in
    upto_more Is notes i c.loop-place.invariant
    (λ d.
    subst Is (get_or_default notes i c.index-notes-place.result d within)
    (subst Is c.index-notes-place.is (c.note_passes.ensures c.if-not-note_passes.false)))

pub returns : goal.returns
returns c = λ on k d within. c.loop-place.invariant k d (omega (arith, within))
