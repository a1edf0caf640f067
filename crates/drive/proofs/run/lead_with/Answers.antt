use Rattle.std.proofs.Common.{◌≡◌, List, Ok, Err}
use Rattle.std.specs.Prelude.{Result, IfOk}
use Rattle.commitgate.specs.Seats.{SeatView}
use Rattle.commitgate.specs.Tickets.{TicketView}
use Rattle.runstate.specs.Ledger.{entries_of}
use Rattle.drive.specs.Leading.{IsAlone}
use Rattle.drive.proofs.run.lead_with.Goals as goal

-- the tickets in hand at the end are some tickets
some_hand : {S E : Type 0} (tickets : List TicketView) (P : List TicketView → S → Type 0) (Q : S → Type 0) (r : Result S E) → IfOk r (λ s. P tickets s × Q s) → IfOk r (λ s. (in_hand : List TicketView) × P in_hand s × Q s)
some_hand tickets P Q (Ok s) is = (tickets, is.0, is.1)
some_hand tickets P Q (Err e) is = is

pub returns-clause-led : goal.returns-clause-led
returns-clause-led g c =
    some_hand c.lead_all-led.new.hand.tickets.items (λ (tickets : List TicketView) (s : SeatView). IsAlone g.K.Naming.named s tickets) (λ (s : SeatView). entries_of s.seen ≡ c.args.entries.now) c.lead_all-led.result c.lead_all-led.ensures.led
