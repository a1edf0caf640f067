-- The turn is too long.
use Rattle.std.proofs.Common.{subst}
use Rattle.turn.specs.TurnAnswers.{IsNoTurn}
use Rattle.tests_concurrent.proofs.between.mixed.Goals as goal

pub returns-clause-turn : goal.returns-clause-turn
returns-clause-turn g c =
    subst (IsNoTurn g.K.Naming.named.code c.args.late.now.state c.args.late.now.time c.fill.new.log.reads) c.in-TooLong.is c.in-Err.ensures.turn

pub returns-clause-gave : goal.returns-clause-gave
returns-clause-gave g c = c.in-Err.ensures.gave c.in-TooLong.is
