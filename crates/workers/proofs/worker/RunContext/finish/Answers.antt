use Rattle.workers.proofs.Seats.{told}
use Rattle.workers.proofs.worker.RunContext.finish.Goals as goal

pub returns-in-Stopped-clause-goes : goal.returns-in-Stopped-clause-goes
returns-in-Stopped-clause-goes g c = (told _ _ _ c.stop.ensures).0

pub returns-in-NoMemory-clause-goes : goal.returns-in-NoMemory-clause-goes
returns-in-NoMemory-clause-goes g c = (told _ _ _ c.stop-in-NoMemory.ensures).0
