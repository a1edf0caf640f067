use Rattle.std.proofs.Common.{length, refl}
use Rattle.std.proofs.lemmas.Option.{slice_get_read}
use Rattle.naming.proofs.naming.journal_of.Goals as goal

pub returns-then-is_journal : goal.returns-then-is_journal
returns-then-is_journal c =
    let item = c.index-shown-place.result in
    let shown = c.args.shown.now in
    (item, c.loop-place.place, refl, slice_get_read shown (length shown) c.loop-place.place item refl c.loop-place-test.true c.index-shown-place.is, c.is_journal.ensures.0 c.if-is_journal.true)
