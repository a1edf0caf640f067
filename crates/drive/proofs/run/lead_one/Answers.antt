-- The seat of the one worker is led, and is the only one again.
use Rattle.std.proofs.Common.{◌∙◌, ap, length}
use Rattle.std.specs.List.{range_with_len}
use Rattle.std.proofs.lemmas.List.{length-map}
use Rattle.std.proofs.lemmas.List.FromFn.{length-range_with_len}
use Rattle.runstate.specs.Ledger.{entries_of}
use Rattle.commitgate.specs.Seats.{SeatView, new_seat}
use Rattle.drive.proofs.Firsts.{first_seat, alone_first}
use Rattle.drive.proofs.Running.{only_one}
use Rattle.drive.proofs.run.lead_one.Goals as goal

pub lead_with-requires-clause-alone : goal.lead_with-requires-clause-alone
lead_with-requires-clause-alone g c =
    let n = g.K.Naming.named in
    let first = first_seat n c.args.seats.now.items c.pop.new.self.items c.in-Some.seat c.requires.worker c.requires.seats c.in-Some.ensures.items in
    alone_first n c.in-Some.seat c.args.tickets.items c.requires.worker c.requires.until first c.requires.tickets

pub lead_with-requires-clause-begins : goal.lead_with-requires-clause-begins
lead_with-requires-clause-begins g c =
    ap (λ (s : SeatView). entries_of s.seen) (first_seat g.K.Naming.named c.args.seats.now.items c.pop.new.self.items c.in-Some.seat c.requires.worker c.requires.seats c.in-Some.ensures.items)

pub returns-clause-led : goal.returns-clause-led
returns-clause-led g c =
    let n = g.K.Naming.named in
    let led = c.in_ok-led.ensures.led in
    let one = only_one c.args.seats.now.items c.pop.new.self.items c.push.new.self.items c.in-Some.seat c.in_ok-led.led
    (ap length c.requires.seats ∙ length-map (range_with_len 0 n.workers) (new_seat n.code) ∙ length-range_with_len 0 n.workers ∙ c.requires.worker)
    c.in-Some.ensures.items c.in_ok-push.ensures.items in
    (c.in_ok-led.led, led.0, one, led.1, led.2)
