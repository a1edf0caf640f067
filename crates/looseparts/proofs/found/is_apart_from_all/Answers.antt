-- One more is apart.
use Rattle.std.proofs.Common.{arith}
use Rattle.certificates.specs.Apart.{SayApart}
use Rattle.looseparts.proofs.Lists.{one_more, all_seen}
use Rattle.looseparts.proofs.found.is_apart_from_all.Goals as goal

pub loop-other-preserved : goal.loop-other-preserved
loop-other-preserved c =
    one_more (SayApart c.args.note.now) c.args.others.now c.loop-other.other-index c.other-item.result (omega arith) c.other-item.is c.loop-other.invariant (c.apart.ensures.so c.if-not-apart.false)

pub returns : goal.returns
returns c = λ done. all_seen (SayApart c.args.note.now) c.args.others.now c.loop-other.other-index (omega arith) c.loop-other.invariant
