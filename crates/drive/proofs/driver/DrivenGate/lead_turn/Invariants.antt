use Rattle.std.proofs.Common.{◌≡◌, ◌≤◌, ◌∷◌}
use Rattle.runstate.specs.Ledger.{entries_of}
use Rattle.commitgate.specs.Tickets.{most_tries}
use Rattle.drive.specs.Leading.{IsAlone}
use Rattle.drive.proofs.driver.DrivenGate.lead_turn.Given as goal

abbrev pub invariant-loop-round : goal.invariant-loop-round
invariant-loop-round g l = record {
  alone : IsAlone g.K.Naming.named l.seat (l.ticket ∷ l.hand.tickets.items);
  seen : entries_of l.seat.seen ≡ entries_of l.fn.seat.seen;
  event : l.ticket.event ≡ l.event;
  rounds : l._round ≤ l.ticket.tries;
  most : 1 ≤ l._round → l.ticket.tries ≤ most_tries;
}
