-- A seat knows its own items of what it has seen, and of the whole ledger.
use Rattle.commitgate.proofs.state.GateState.settle.Goals as goal

pub returns-clause-settled : goal.returns-clause-settled
returns-clause-settled g c = record {
  later = c.synchronize.ensures.later;
  own = c.synchronize.ensures.own;
  own_seen = record { positions = c.share-share.ensures.positions; stored = c.share-share.ensures.stored };
}
