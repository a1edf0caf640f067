use Rattle.workers.proofs.Seats.{told}
use Rattle.workers.proofs.deques.put.Goals as goal

pub returns-in-Err-clause-goes : goal.returns-in-Err-clause-goes
returns-in-Err-clause-goes g c = (told _ _ _ c.stop.ensures).0
