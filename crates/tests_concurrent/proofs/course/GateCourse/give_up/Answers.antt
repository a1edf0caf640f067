-- A turn that is too long by its log is so by the log's reads.
use Rattle.std.proofs.Common.{sym, subst}
use Rattle.turn.specs.TurnAnswers.{IsNoTurn}
use Rattle.turn.specs.declared.log.FillFault.TheVariants.{TooLong}
use Rattle.tests_concurrent.proofs.course.GateCourse.give_up.Goals as goal

pub too_long-requires-clause-turn : goal.too_long-requires-clause-turn
too_long-requires-clause-turn g c =
    subst (λ reads. IsNoTurn g.K.Naming.named.code c.args.ticket.state c.args.ticket.time reads TooLong) (sym c.reads.ensures) c.requires.turn
