-- Each keeps off.
use Rattle.std.proofs.Common.{◌<◌, length, subst, arith}
use Rattle.std.proofs.lemmas.List.{get_or_default}
use Rattle.settling.proofs.Listed.{upto_more}
use Rattle.loosewalks.specs.Held.{NoteKeepsOff}
use Rattle.loosewalks.proofs.cone.notes_keep_off.Goals as goal

pub loop-place-preserved : goal.loop-place-preserved
loop-place-preserved c =
    let notes = c.args.notes.now in
    let Keeps = NoteKeepsOff c.args.outputs.now c.args.cone.now c.args.touched.now in
    let i = c.loop-place.place in
    let within : i < length notes = omega arith in
    upto_more Keeps notes i c.loop-place.invariant (λ d. subst Keeps (get_or_default notes i c.index-notes-place.result d within) (subst Keeps c.index-notes-place.is (c.note_keeps_off.ensures c.if-not-note_keeps_off.false)))

pub returns : goal.returns
returns c = λ on k d within. c.loop-place.invariant k d (omega (arith, within))
