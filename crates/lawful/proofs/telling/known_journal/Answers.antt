-- The journal beside the text and the end that are the same.
use Rattle.std.proofs.Common.{◌∙◌, sym}
use Rattle.lawful.proofs.telling.known_journal.Goals as goal

pub returns-then-is_same : goal.returns-then-is_same
returns-then-is_same c =
    let same = c.is_same.ensures c.if-is_same.true in
    (c.loop-one.one-index, c.one-item.result, c.loop-one-test.true, sym c.one-item.is, (same.0, same.1, sym (c.in_ok-journal.ensures ∙ c.as_slice.ensures.value)))
