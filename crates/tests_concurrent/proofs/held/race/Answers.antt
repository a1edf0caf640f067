-- That one thread may have a seat and its ticket.
use denote.Param.{param}
use denote.Param.Send.{IsSend, IsSync, param_send, sendable}
use Rattle.std.proofs.Crossing.{crosses}
use Rattle.design.specs.contracts.design.Design as Design
use Rattle.commitgate.proofs.Crossing.{gate_sync}
use Rattle.commitgate.proofs.seat.Seat.TheSendSync as seat
use Rattle.commitgate.proofs.ticket.Ticket.TheSendSync as ticket
use Rattle.tests_concurrent.proofs.held.race.Lts.{arg-1-1}
use Rattle.tests_concurrent.proofs.held.race.Goals as goal

pub join-one-requires-send-F : goal.join-one-requires-send-F
join-one-requires-send-F g c κs within = param_send 1 _ (given c.requires.design c.requires.runtime c.requires.name)
  where
    given : IsSync Design.the_row → IsSync (param 1 g.row.R) → IsSend (param 0 g.row.K) → IsSend (arg-1-1 g.row.K g.row.R g.K.laws g.R.laws g.K.Naming g.K.Naming-dict g.R.Threads g.R.Threads-dict g.R.Wait g.R.Wait-dict g.R.Abort g.R.Abort-dict κs)
    given design runtime name = search (gate_sync, seat.the_send, ticket.the_send, crosses, sendable) depth 40 fits 5000
