-- The fault that is told is answered.
use Rattle.std.proofs.Common.{refl}
use Rattle.explain.proofs.Ends.{no_replay, of_entries, no_replay_but}
use Rattle.explain.proofs.telling.tell_fault.Goals as goal

pub returns-in-Err-clause-refused : goal.returns-in-Err-clause-refused
returns-in-Err-clause-refused g c = no_replay c.in-Err.failure _ c.in-Err.ensures.own

pub returns-in-Err-clause-own : goal.returns-in-Err-clause-own
returns-in-Err-clause-own g c = of_entries c.in-Err.failure c.in-Err.ensures.own

pub returns-in_default-clause-refused : goal.returns-in_default-clause-refused
returns-in_default-clause-refused g c = no_replay_but c.args.fault c.args.fault _ refl c.in_default.not-Replay
