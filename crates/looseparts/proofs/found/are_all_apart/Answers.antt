-- One more is apart from all.
use Rattle.std.proofs.Common.{arith}
use Rattle.std.specs.List.{All}
use Rattle.certificates.specs.Apart.{SayApart}
use Rattle.looseparts.proofs.Lists.{one_more, all_seen}
use Rattle.looseparts.proofs.found.are_all_apart.Goals as goal

pub loop-note-preserved : goal.loop-note-preserved
loop-note-preserved c =
    one_more (λ note. All (SayApart note) c.args.others.now) c.args.notes.now c.loop-note.note-index c.note-item.result (omega arith) c.note-item.is c.loop-note.invariant (c.is_apart_from_all.ensures c.if-not-is_apart_from_all.false)

pub returns : goal.returns
returns c = λ done. all_seen (λ note. All (SayApart note) c.args.others.now) c.args.notes.now c.loop-note.note-index (omega arith) c.loop-note.invariant
