-- The machine stands at the start, and its design is the one that was given.
use Rattle.std.proofs.Common.{subst}
use Rattle.std.specs.Prelude.{IfErr}
use Rattle.design.specs.Compiled.{Compiled}
use Rattle.replay.proofs.AtStart.{behind_none}
use Rattle.differences.specs.CompareFaults.{IsRunFaultOf}
use Rattle.differences.proofs.summary.summary.Goals as goal

pub run_summary-told-requires-clause-start : goal.run_summary-told-requires-clause-start
run_summary-told-requires-clause-start g c κs within = behind_none c.args.design.now c.in-Ok.machine c.in-Ok.ensures.code c.in-Ok.ensures.state c.in-Ok.ensures.lines

pub returns-clause-fault : goal.returns-clause-fault
returns-clause-fault g c =
    subst (λ (code : Compiled). IfErr c.run_summary-told.result (IsRunFaultOf code c.args.entries.now)) c.in-Ok.ensures.code c.run_summary-told.ensures.fault
