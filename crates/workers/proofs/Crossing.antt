-- That threads may hand over a worker. `search` runs out of steps where it goes down through all of its types at once.
use denote.RattleType.{RattleType}
use denote.Param.Send.{IsSend, sendable}
use Rattle.std.proofs.Crossing.{crosses}
use Rattle.eventpool.proofs.ends.Owner.TheSendSync as owner
use Rattle.eventpool.proofs.ends.Thief.TheSendSync as thief
use Rattle.commitgate.specs.declared.naming.Naming as Naming
use Rattle.commitgate.proofs.seat.Seat.TheSendSync as seat
use Rattle.commitgate.proofs.ticket.Ticket.TheSendSync as ticket
use Rattle.workers.specs.contracts.worker.Worker as Worker

module _ (K : RattleType) (n : Naming.Ghosts K.Denot) (k : IsSend K) where
  pub worker_send : IsSend (Worker.the_row K n)
  worker_send = search (seat.the_send, ticket.the_send, owner.the_send, thief.the_send, crosses, sendable) depth 40 fits 5000
