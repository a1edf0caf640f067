-- The turn that was evaluated is offered behind the others, by what the seat has seen since.
use Rattle.std.proofs.Common.{◌≡◌, ℕ, List, length, slice_set, arith, rules, subst, sym}
use Rattle.turn.specs.TurnLogs.{LogView}
use Rattle.turn.specs.Reads.{GaveAll}
use Rattle.turn.specs.TurnAnswers.{IsNoTurn}
use Rattle.turn.specs.declared.log.FillFault.{FillFault}
use Rattle.turn.specs.declared.log.FillFault.TheVariants.{TooLong}
use Rattle.runstate.specs.Histories.{IsRead}
use Rattle.commitgate.specs.Tickets.{TicketView}
use Rattle.commitgate.specs.Batches.{AreOffered}
use Rattle.commitgate.proofs.Batches.{offered_later}
use Rattle.workers.proofs.Batching.{offered_kept, offered_more, log_written}
use Rattle.workers.proofs.Seats.{goes_read}
use Rattle.workers.proofs.worker.RunContext.add.Goals as goal

pub returns-in-Ok-clause-offered : goal.returns-in-Ok-clause-offered
returns-in-Ok-clause-offered g c =
    let code = g.K.Naming.named.code in
    let tickets = c.args.batch.now.tickets.items in
    let logs = c.args.batch.now.logs.items in
    let fresh = c.evaluate.new.seat.fresh in
    let at : c.len-place.result ≡ length tickets = search rules in
    let few = c.requires.few in
    let room = c.requires.room.0 in
    let later = offered_later code c.args.seat.now.fresh fresh tickets logs c.evaluate.ensures.reads_on.rises c.requires.offered in
    subst (λ (p : List TicketView × ℕ). AreOffered code fresh p.0 (slice_set logs p.1 c.evaluate.new.log)) (λ i. (sym c.push_back_reserved.ensures.items i, sym at i))
    (offered_more code fresh tickets c.args.ticket logs c.evaluate.new.log (omega (arith, few, room)) later c.requires.tries c.in-Ok.ensures.turn c.in-Ok.ensures.gave)

pub returns-in-Ok-clause-goes : goal.returns-in-Ok-clause-goes
returns-in-Ok-clause-goes g c = goes_read _ _ c.evaluate.ensures.reads_on

pub returns-in-Err-clause-goes : goal.returns-in-Err-clause-goes
returns-in-Err-clause-goes g c = goes_read _ _ c.evaluate.ensures.reads_on

pub returns-in-Err-clause-offered : goal.returns-in-Err-clause-offered
returns-in-Err-clause-offered g c =
    let code = g.K.Naming.named.code in
    let tickets = c.args.batch.now.tickets.items in
    let logs = c.args.batch.now.logs.items in
    let fresh = c.evaluate.new.seat.fresh in
    let at : c.len-place.result ≡ length tickets = search rules in
    let later = offered_later code c.args.seat.now.fresh fresh tickets logs c.evaluate.ensures.reads_on.rises c.requires.offered in
    subst (λ (k : ℕ). AreOffered code fresh tickets (slice_set logs k c.evaluate.new.log)) (sym at) (offered_kept code fresh tickets logs c.evaluate.new.log later)

pub returns-in-Err-clause-long : goal.returns-in-Err-clause-long
returns-in-Err-clause-long g c too_long =
    let code = g.K.Naming.named.code in
    let ticket = c.args.ticket in
    let tickets = c.args.batch.now.tickets.items in
    let logs = c.args.batch.now.logs.items in
    let fresh = c.evaluate.new.seat.fresh in
    let new = c.evaluate.new.log in
    let at : c.len-place.result ≡ length tickets = search rules in
    let few = c.requires.few in
    let room = c.requires.room.0 in
    let turn = subst (λ (fault : FillFault). IsNoTurn code ticket.state ticket.time new.reads fault) too_long c.in-Err.ensures.turn in
    log_written (λ (log : LogView). IsNoTurn code ticket.state ticket.time log.reads TooLong × GaveAll (IsRead code fresh) log.reads) logs c.len-place.result (length tickets) new at
    (omega (arith, few, room)) (turn, c.in-Err.ensures.gave too_long)
