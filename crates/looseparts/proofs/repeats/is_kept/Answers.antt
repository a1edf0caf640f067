-- It is this one.
use Rattle.std.proofs.Common.{sym}
use Rattle.looseparts.proofs.repeats.is_kept.Goals as goal

pub returns-then-come_to_the_same : goal.returns-then-come_to_the_same
returns-then-come_to_the_same c = λ done.
    record {
      one = c.one-item.result;
      there = (c.loop-one.one-index, c.loop-one-test.true, sym c.one-item.is);
      same_lines = c.come_to_the_same.ensures.lines c.if-come_to_the_same.true;
      same_key = c.come_to_the_same.ensures.key c.if-come_to_the_same.true;
    }
