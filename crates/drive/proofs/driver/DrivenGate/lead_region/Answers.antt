-- What the answers to a call for a change of the regions say of the change that is wanted.
use Rattle.std.proofs.Common.{rules}
use Rattle.drive.proofs.Leading.{led_as, changed_leads, changed_bars, busy_bars, quiet_bars, rest_stopped_bars, held_bars}
use Rattle.drive.proofs.driver.DrivenGate.lead_region.Goals as goal

pub returns-then-not-is_empty : goal.returns-then-not-is_empty
returns-then-not-is_empty g c = held_bars g.K.Naming.named c.args.seat.now c.args.hand.now.tickets.items c.args.entry c.requires.change c.requires.alone (search rules)

pub returns-in-Changed : goal.returns-in-Changed
returns-in-Changed g c =
    let n = g.K.Naming.named in
    let x = c.args.entry in
    let old = c.args.seat.now in
    let new = c.rest-rest.new.seat in
    let in_hand = c.args.hand.now.tickets.items in
    let grant = c.in-Changed.grant in
    led_as n x grant.entry old new in_hand grant.tickets.items c.lead_change.new.tickets.items c.lead_change.result c.lead_change.ensures.appended c.lead_change.ensures.other
    (λ is. changed_leads n old new in_hand x c.requires.change c.requires.alone grant.position grant.entry grant.tickets.items c.in-Changed.ensures c.invariant_holds.ensures is)
    (λ other. changed_bars n old new in_hand x c.requires.change c.requires.alone grant.position grant.entry grant.tickets.items c.in-Changed.ensures c.invariant_holds.ensures other)

pub returns-in-Busy : goal.returns-in-Busy
returns-in-Busy g c = busy_bars g.K.Naming.named c.args.seat.now c.rest-rest.new.seat c.args.hand.now.tickets.items c.args.entry c.requires.change c.requires.alone c.in-Busy.ensures c.invariant_holds.ensures

pub returns-in-Quiet : goal.returns-in-Quiet
returns-in-Quiet g c = quiet_bars g.K.Naming.named c.args.seat.now c.rest-rest.new.seat c.args.hand.now.tickets.items c.args.entry c.requires.change c.requires.alone c.in-Quiet.ensures c.invariant_holds.ensures

pub returns-in-Stopped : goal.returns-in-Stopped
returns-in-Stopped g c =
    rest_stopped_bars g.K.Naming.named c.args.seat.now c.rest-rest.new.seat c.args.hand.now.tickets.items c.args.entry c.requires.change c.requires.alone c.in-Stopped.field-0 c.in-Stopped.ensures c.invariant_holds.ensures c.requires.room
