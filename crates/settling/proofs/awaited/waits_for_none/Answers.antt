-- None of the triggers is of one of the registers.
use Rattle.std.proofs.Common.{List, arith, subst}
use Rattle.model.specs.Design.{Trigger}
use Rattle.settling.specs.Waiting.{WaitsForNone}
use Rattle.settling.proofs.Listed.{none_awaited}
use Rattle.settling.proofs.awaited.waits_for_none.Goals as goal

pub returns : goal.returns
returns c = λ on.
    subst (λ (ts : List Trigger). WaitsForNone ts c.args.registers.now) c.triggers-triggers.ensures
    (none_awaited c.args.registers.now c.triggers-triggers.result.now (λ k d within. c.loop-trigger.invariant k d (omega (arith, within))))
