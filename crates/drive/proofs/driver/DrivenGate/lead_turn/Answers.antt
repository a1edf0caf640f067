-- What the answers to the ticket of an event say of its turn.
use Rattle.std.proofs.Common.{◌≡◌, ◌∙◌, arith, refl, ap, length}
use Rattle.runstate.specs.Ledger.{entries_of}
use Rattle.commitgate.specs.declared.reply.Reply.TheVariants.{Accepted, Stale, Gone, Stopped}
use Rattle.drive.specs.Leading.{IsOffered}
use Rattle.drive.proofs.Leading.{no_ticket_bars, alone_taken, offered_accepted, offered_stale, offered_gone, offered_stopped, turn_barred, turn_led, some_at}
use Rattle.drive.proofs.driver.DrivenGate.lead_turn.Goals as goal

pub returns-in_default : goal.returns-in_default
returns-in_default g c = no_ticket_bars g.K.Naming.named c.args.seat c.args.hand.now.tickets.items c.args.event c.requires.alone c.in_default.ensures.none.1

pub loop-round-init : goal.loop-round-init
loop-round-init g c =
    let some = c.in-Some.ensures.some in
    record {
      alone = alone_taken g.K.Naming.named c.args.seat c.args.hand.now.tickets.items some.1.0 c.in-Some.ticket some.1.1 c.take_ticket.new.tickets.items c.requires.alone some.1.2 some.1.3;
      seen = refl;
      event = some.0;
      rounds = omega arith;
      most = λ one. absurd (omega (arith, one));
    }

pub loop-round-preserved : goal.loop-round-preserved
loop-round-preserved g c =
    let at = c.loop-round in
    let was = at.invariant in
    let n = g.K.Naming.named in
    let reply = some_at (IsOffered n at.ticket at.seat c.offer-next.result.0) c.offer-next.result.1 c.in-Some-reply.reply (Stale c.in-Stale.field-0 c.in-Stale.again) c.offer-next.ensures c.in-Some-reply.is c.in-Stale.is in
    let back = offered_stale n at.ticket at.seat c.offer-next.result.0 at.hand.tickets.items was.alone c.in-Stale.again reply c.invariant_holds.ensures in
    let more = back.3 in
    let few = back.4 in
    let rounds = was.rounds in
    record {
      alone = back.0;
      seen = back.1 ∙ was.seen;
      event = back.2 ∙ was.event;
      rounds = omega (arith, more, rounds);
      most = λ one. omega (arith, more, few);
    }

pub returns-in-Accepted : goal.returns-in-Accepted
returns-in-Accepted g c =
    let at = c.loop-round in
    let was = at.invariant in
    let n = g.K.Naming.named in
    let grant = c.in-Accepted.grant in
    let reply = some_at (IsOffered n at.ticket at.seat c.offer-next.result.0) c.offer-next.result.1 c.in-Some-reply.reply (Accepted grant) c.offer-next.ensures c.in-Some-reply.is c.in-Accepted.is in
    turn_led n c.args.seat at.seat c.offer-next.result.0 at.ticket.event c.args.event at.hand.tickets.items grant.tickets.items c.add_tickets.new.tickets.items c.add_tickets.result was.seen was.event
    (offered_accepted n at.ticket at.seat c.offer-next.result.0 at.hand.tickets.items was.alone grant.position grant.entry grant.tickets.items reply c.invariant_holds.ensures) c.add_tickets.ensures.appended c.add_tickets.ensures.lawful

pub returns-in-Gone : goal.returns-in-Gone
returns-in-Gone g c =
    let at = c.loop-round in
    let was = at.invariant in
    let n = g.K.Naming.named in
    let reply = some_at (IsOffered n at.ticket at.seat c.offer-next.result.0) c.offer-next.result.1 c.in-Some-reply.reply Gone c.offer-next.ensures c.in-Some-reply.is c.in-Gone.is in
    turn_barred n c.args.seat at.seat at.ticket.event c.args.event was.seen was.event (offered_gone n at.ticket at.seat c.offer-next.result.0 at.hand.tickets.items was.alone reply c.invariant_holds.ensures)

pub returns-in-Stopped : goal.returns-in-Stopped
returns-in-Stopped g c =
    let at = c.loop-round in
    let was = at.invariant in
    let n = g.K.Naming.named in
    let reply = some_at (IsOffered n at.ticket at.seat c.offer-next.result.0) c.offer-next.result.1 c.in-Some-reply.reply (Stopped c.in-Stopped.field-0) c.offer-next.ensures c.in-Some-reply.is c.in-Stopped.is in
    let seen = was.seen in
    let room = c.requires.room in
    let long : length (entries_of at.seat.seen) ≡ length (entries_of c.args.seat.seen) = ap length seen in
    turn_barred n c.args.seat at.seat at.ticket.event c.args.event seen was.event
    (offered_stopped n at.ticket at.seat c.offer-next.result.0 at.hand.tickets.items was.alone c.in-Stopped.field-0 reply c.invariant_holds.ensures (omega (arith, long, room)))

pub unreachable-requires : goal.unreachable-requires
unreachable-requires g c =
    let rounds = c.loop-round.invariant.rounds in
    let most = c.loop-round.invariant.most (omega (arith, c.loop-round-test.false)) in
    omega (arith, c.loop-round-test.false, rounds, most)
