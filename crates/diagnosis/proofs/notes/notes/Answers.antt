-- Each turn passes a lexeme.
use Rattle.std.proofs.Common.{arith}
use Rattle.diagnosis.proofs.Noted.{note_front, notes_end}
use Rattle.diagnosis.proofs.notes.notes.Goals as goal

pub loop-left-preserved : goal.loop-left-preserved
loop-left-preserved c =
    note_front _ c.loop-left.left.now _ c.note_of-note.result _ _ (omega (arith, c.in-len1-up.len_at_least)) c.note_of-note.ensures c.in_ok-add.ensures c.loop-left.invariant

pub returns : goal.returns
returns c =
    notes_end c.args.source.now c.in_ok-lexemes.lexemes.items c.as_slice-left.result.now c.loop-left.left.now c.loop-left.found.items c.in_ok-lexemes.ensures c.as_slice-left.ensures.value (omega (arith, c.in_default.len_below)) c.loop-left.invariant
