use Rattle.std.proofs.Common.{[], arith}
use Rattle.workers.proofs.Seats.{told, goes_refused, goes_stopped, goes_then, goes_few}
use Rattle.workers.proofs.Told.{changed}
use Rattle.workers.proofs.Kept.{changed_put, kept_refused}
use Rattle.workers.proofs.worker.RunContext.rest.Goals as goal

pub returns-in-Changed-clause-goes : goal.returns-in-Changed-clause-goes
returns-in-Changed-clause-goes g c = goes_then 0 1 _ _ _ (changed g.K.Naming.named _ _ _ _ _ c.in-Changed.ensures) c.put_all.ensures.goes

pub returns-in-Busy-clause-goes : goal.returns-in-Busy-clause-goes
returns-in-Busy-clause-goes g c = goes_few 0 0 1 _ _ (omega arith) (goes_refused g.K.Naming.named _ _ c.in-Busy.ensures.0)

pub returns-in-Quiet-clause-goes : goal.returns-in-Quiet-clause-goes
returns-in-Quiet-clause-goes g c = goes_few 0 0 1 _ _ (omega arith) (goes_refused g.K.Naming.named _ _ c.in-Quiet.ensures.refused)

pub returns-in-Stopped-clause-goes : goal.returns-in-Stopped-clause-goes
returns-in-Stopped-clause-goes g c = goes_few 0 0 1 _ _ (omega arith) (goes_stopped g.K.Naming.named _ _ _ _ c.in-Stopped.ensures)

pub returns-in-NoMemory-clause-goes : goal.returns-in-NoMemory-clause-goes
returns-in-NoMemory-clause-goes g c =
    goes_few 0 0 1 _ _ (omega arith) (goes_then 0 0 _ _ _ (goes_refused g.K.Naming.named _ _ c.in-NoMemory.ensures) (told g.K.Naming.named _ _ c.stop.ensures).0)

pub returns-in-Changed-clause-keeps : goal.returns-in-Changed-clause-keeps
returns-in-Changed-clause-keeps g c on placed row k =
    changed_put g.K.Naming.named placed c.args.seat.now c.rest.new.seat c.put_all.new.seat c.args.owner.now c.put_all.new.owner row _ _ _ c.in-Changed.ensures
    (c.put_all.ensures.kept on) (c.put_all.ensures.all on) c.put_all.ensures.puts.1 k

pub returns-in-Busy-clause-keeps : goal.returns-in-Busy-clause-keeps
returns-in-Busy-clause-keeps g c on placed row k = kept_refused g.K.Naming.named placed _ _ _ row [] [] c.in-Busy.ensures.0 k
