-- What the reader gave, the seat has seen.
use Rattle.std.proofs.Common.{rules}
use Rattle.drive.proofs.Seats.{given_by}
use Rattle.tests_concurrent.proofs.course.GateCourse.fill.Goals as goal

pub returns-clause-gave : goal.returns-clause-gave
returns-clause-gave g c = given_by g.K.Naming.named.code c.fill_turn-turn.new.reader.1.fresh _ c.fill_turn-turn.new.log c.fill_turn-turn.result (search rules) c.fill_turn-turn.ensures.gave
