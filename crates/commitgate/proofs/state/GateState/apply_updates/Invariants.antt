use Rattle.std.proofs.Common.{◌≡◌, ◌-◌}
use Rattle.std.specs.Prelude.{vec_len, IsTrue}
use Rattle.std.specs.Vec.{vec_capacity}
use Rattle.std.specs.List.{All}
use Rattle.commitgate.specs.Batches.{AreUpdated, AreUpdatedTo, IsQuiet}
use Rattle.commitgate.proofs.state.GateState.apply_updates.Given as goal

abbrev pub invariant-loop-self : goal.invariant-loop-self
invariant-loop-self g l = record {
  state : AreUpdated g.K.Naming.named.code g.K.Naming.named.limits l.fn.seat.worker l.fn.self l.grants.items l.self;
  seat : AreUpdatedTo g.K.Naming.named l.fn.seat l.grants.items l.seat;
  quiet : All IsQuiet l.grants.items;
  worker : l.seat.worker ≡ l.fn.seat.worker;
  capacity : vec_capacity l.grants ≡ vec_capacity l.fn.grants;
  synchronized : IsTrue l.synchronized → l.seat.seen ≡ l.self.ledger;
}

abbrev pub decreases-loop-self : goal.decreases-loop-self
decreases-loop-self g l = vec_capacity l.grants - vec_len l.grants
