-- The turns of the batch are appended, and the one that is too long isn't.
use Rattle.std.proofs.Common.{◌≡◌, [], ◌∷◌, length, ap, subst, sym, refl, arith, rules}
use Rattle.turn.specs.TurnLogs.{LogView}
use Rattle.turn.specs.Reads.{GaveAll}
use Rattle.turn.specs.TurnAnswers.{IsNoTurn}
use Rattle.turn.specs.declared.log.FillFault.TheVariants.{TooLong}
use Rattle.runstate.specs.Histories.{IsRead}
use Rattle.workers.proofs.Batching.{fills_goes, fills_more, log_found}
use Rattle.workers.proofs.Seats.{goes_then}
use Rattle.workers.proofs.Told.{gave_later, long_goes}
use Rattle.workers.proofs.Kept.{settled, long_deals}
use Rattle.workers.proofs.Hands.{keeps_behind}
use Rattle.workers.proofs.worker.RunContext.give_up.Goals as goal

pub returns-clause-fills : goal.returns-clause-fills
returns-clause-fills g c =
    let before = length c.args.batch.now.tickets.items in
    let left = length c.commit.new.batch.tickets.items in
    fills_more c.args.worker.now c.commit.new.worker _ before 0 0 0 left 0 left 0 c.commit.ensures.fills
    (fills_goes c.commit.new.worker _ left 0 0 left
    (goes_then 0 0 _ _ _ (long_goes g.K.Naming.named c.commit.new.worker.seat c.args.ticket _ c.too_long-reply.new.seat _ c.too_long-reply.ensures) c.finish.ensures.goes)
    (omega arith) c.finish.ensures.puts refl refl)

pub too_long-reply-requires-clause-turn : goal.too_long-reply-requires-clause-turn
too_long-reply-requires-clause-turn g c =
    let code = g.K.Naming.named.code in
    let ticket = c.args.ticket in
    let tickets = c.args.batch.now.tickets.items in
    let before = c.args.batch.now.logs.items in
    let after = c.commit.new.batch.logs.items in
    let log = c.index.result.now in
    let at : c.len-place.result ≡ length tickets = search rules in
    subst (λ rs. IsNoTurn code ticket.state ticket.time rs TooLong) (sym c.reads-reads.ensures)
    (log_found (λ (l : LogView). IsNoTurn code ticket.state ticket.time l.reads TooLong) before after (length tickets) c.len-place.result log
    (ap (λ logs. logs.items) c.commit.ensures.logs) at (λ l is. (c.requires.long l is).0) c.index.ensures)

pub too_long-reply-requires-clause-recorded : goal.too_long-reply-requires-clause-recorded
too_long-reply-requires-clause-recorded g c =
    let code = g.K.Naming.named.code in
    let fresh = c.args.worker.now.seat.fresh in
    let tickets = c.args.batch.now.tickets.items in
    let before = c.args.batch.now.logs.items in
    let after = c.commit.new.batch.logs.items in
    let log = c.index.result.now in
    let at : c.len-place.result ≡ length tickets = search rules in
    let gave = log_found (λ (l : LogView). GaveAll (IsRead code fresh) l.reads) before after (length tickets) c.len-place.result log
    (ap (λ logs. logs.items) c.commit.ensures.logs) at (λ l is. (c.requires.long l is).1) c.index.ensures in
    subst (λ rs. GaveAll (IsRead code c.commit.new.worker.seat.fresh) rs) (sym c.reads-reads.ensures)
    (gave_later code fresh c.commit.new.worker.seat.fresh log.reads (c.commit.ensures.rises c.in-GoesOn.is) gave)

pub returns-clause-keeps : goal.returns-clause-keeps
returns-clause-keeps g c on =
    let n = g.K.Naming.named in
    let worker = c.commit.new.worker in
    keeps_behind n c.args.worker.now worker _ c.args.batch.now.tickets.items c.args.ticket (c.commit.ensures.keeps c.in-GoesOn.is)
    (record {
      all = λ placed k.
          settled n placed worker.seat c.too_long-reply.new.seat c.finish.new.seat worker.owner c.finish.new.owner worker.row.items c.args.ticket [] _
          (long_deals n worker.seat c.args.ticket _ c.too_long-reply.new.seat _ c.too_long-reply.ensures) (c.finish.ensures.settled on) (c.finish.ensures.kept on) (c.finish.ensures.all on) c.finish.ensures.puts.1 k;
    })
