-- The first active update, or else the change that is due.
use Rattle.std.proofs.Common.{sym}
use Rattle.regions.specs.Queue.{core_of, state_of}
use Rattle.regions.proofs.Permitted.{other_update, other_due}
use Rattle.regions.proofs.queue.Queue.next_other.Goals as goal

pub returns-in-Some : goal.returns-in-Some
returns-in-Some c = λ rem values. other_update (state_of rem values (core_of c.args.self.now)) c.in-Some.number (c.in-Some.ensures.permitted rem values c.requires.running)

pub returns-in-None : goal.returns-in-None
returns-in-None c = λ rem values. other_due (state_of rem values (core_of c.args.self.now)) c.due.result (sym c.in-None.ensures.least) (c.due.ensures rem values)
