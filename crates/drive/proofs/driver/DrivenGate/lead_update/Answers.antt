-- What the answers to a call for an update say of the update that is wanted.
use Rattle.model.specs.declared.entry.Entry.TheVariants.{Update}
use Rattle.drive.proofs.Leading.{led_as, updated_leads, updated_bars, no_update_bars, update_stopped_bars}
use Rattle.drive.proofs.driver.DrivenGate.lead_update.Goals as goal

pub returns-in-Accepted : goal.returns-in-Accepted
returns-in-Accepted g c =
    let n = g.K.Naming.named in
    let old = c.args.seat.now in
    let new = c.update-reply.new.seat in
    let in_hand = c.args.hand.now.tickets.items in
    let grant = c.in-Accepted.grant in
    led_as n (Update c.args.number) grant.entry old new in_hand grant.tickets.items c.lead_change.new.tickets.items c.lead_change.result c.lead_change.ensures.appended c.lead_change.ensures.other
    (λ is. updated_leads n old new in_hand c.args.number c.requires.alone grant.position grant.entry grant.tickets.items c.in-Accepted.ensures c.invariant_holds.ensures is)
    (λ other. updated_bars n old new in_hand c.args.number c.requires.alone grant.position grant.entry grant.tickets.items c.in-Accepted.ensures c.invariant_holds.ensures other)

pub returns-in-Nothing : goal.returns-in-Nothing
returns-in-Nothing g c = no_update_bars g.K.Naming.named c.args.seat.now c.update-reply.new.seat c.args.hand.now.tickets.items c.args.number c.requires.alone c.in-Nothing.ensures c.invariant_holds.ensures

pub returns-in-Stopped : goal.returns-in-Stopped
returns-in-Stopped g c =
    update_stopped_bars g.K.Naming.named c.args.seat.now c.update-reply.new.seat c.args.hand.now.tickets.items c.args.number c.requires.alone c.in-Stopped.field-0 c.in-Stopped.ensures c.invariant_holds.ensures c.requires.room
