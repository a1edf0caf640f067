-- The turn that was evaluated is offered behind the others, by what the seat has read since.
use Rattle.std.proofs.Common.{◌≡◌, ◌<◌, List, [], ◌∷◌, ◌++◌, sym, subst, rules}
use Rattle.turn.specs.TurnLogs.{LogView}
use Rattle.commitgate.specs.Tickets.{TicketView, most_tries}
use Rattle.commitgate.specs.Batches.{AreOffered}
use Rattle.tests_concurrent.proofs.Batching.{offered_more}
use Rattle.tests_concurrent.proofs.batches.SeatBatch.add.Goals as goal

pub returns-clause-offered : goal.returns-clause-offered
returns-clause-offered g c =
    let code = g.K.Naming.named.code in
    let before = c.args.seat.now.fresh in
    let after = c.evaluate-log.new.seat.fresh in
    let tickets = c.args.self.now.tickets.items in
    let logs = c.args.self.now.logs.items in
    let ticket = c.args.ticket in
    let log = c.evaluate-log.result in
    let pushed : c.push_back.new.self.items ≡ tickets ++ ticket ∷ [] = search rules in
    let noted : c.push.new.self.items ≡ logs ++ log ∷ [] = search rules in
    let tries : ticket.tries < most_tries = search rules in
    subst (λ (p : List TicketView × List LogView). AreOffered code after p.0 p.1) (λ i. (sym pushed i, sym noted i))
    (offered_more code before after tickets ticket logs log c.requires.pairs c.evaluate-log.ensures.keeps c.requires.offered tries c.evaluate-log.ensures.turn c.evaluate-log.ensures.gave)
