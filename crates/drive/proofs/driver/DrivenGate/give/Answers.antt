-- A turn that is too long by its log is so by the log's reads.
use Rattle.std.proofs.Common.{sym, subst}
use Rattle.std.specs.Prelude.{Result, MatchResult}
use Rattle.turn.specs.TurnAnswers.{IsTurnLog, IsNoTurn}
use Rattle.turn.specs.declared.log.FillFault.{FillFault}
use Rattle.turn.specs.declared.log.FillFault.TheVariants.{TooLong}
use Rattle.drive.proofs.driver.DrivenGate.give.Goals as goal

pub too_long-requires-clause-turn : goal.too_long-requires-clause-turn
too_long-requires-clause-turn g c =
    let code = g.K.Naming.named.code in
    let ticket = c.args.ticket in
    let log = c.args.log.now in
    let told =
    subst (λ (r : Result (Unit {0}) FillFault). MatchResult r (λ _. IsTurnLog code ticket.state ticket.time log) (λ (fault : FillFault). IsNoTurn code ticket.state ticket.time log.reads fault)) c.in-Err.is c.requires.turn in
    let turn = subst (λ (fault : FillFault). IsNoTurn code ticket.state ticket.time log.reads fault) c.in-TooLong.is told in
    subst (λ reads. IsNoTurn code ticket.state ticket.time reads TooLong) (sym c.reads.ensures) turn
