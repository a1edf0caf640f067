-- The seat has read on, since it began.
use Rattle.std.proofs.Common.{◌∙◌}
use Rattle.regcells.specs.Meetings.{fresh_of}
use Rattle.commitgate.specs.Seats.{SeatView, SeatReadsOn}
use Rattle.runstate.proofs.Beginnings.{prefix_trans}
use Rattle.commitgate.proofs.read_phase.WatchedReaderRegReader.read.Goals as goal

reads_on_more : (a b c : SeatView) → SeatReadsOn a b → SeatReadsOn b c → SeatReadsOn a c
reads_on_more a b c p q = record {
  worker = q.worker ∙ p.worker;
  seen = q.seen ∙ p.seen;
  positions = q.positions ∙ p.positions;
  stored = q.stored ∙ p.stored;
  rises = λ r. prefix_trans (fresh_of a.fresh r) (fresh_of b.fresh r) (fresh_of c.fresh r) (p.rises r) (q.rises r);
}

pub invariant_of-self : goal.invariant_of-self
invariant_of-self g c = reads_on_more _ _ _ c.self.invariant c.read.ensures.reads_on
