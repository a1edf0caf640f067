use Rattle.std.proofs.Common.{sym}
use Rattle.program.proofs.known.is_there.Goals as goal

pub returns-then-is_same-clause-there : goal.returns-then-is_same-clause-there
returns-then-is_same-clause-there c _ = (c.loop-one.one-index, c.one-item.result, c.loop-one-test.true, sym c.one-item.is, c.is_same.ensures.0 c.if-is_same.true)
