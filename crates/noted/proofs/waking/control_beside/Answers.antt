-- A process that is held waits at none.
use Rattle.std.proofs.Common.{ℕ, Option, ap, sym, ◌∙◌}
use Rattle.regions.specs.Machine.{state_at}
use Rattle.regions.specs.ProcessWaking.{triggers_at}
use Rattle.noted.proofs.Woken.{awaited_beside}
use Rattle.noted.proofs.waking.control_beside.Goals as goal

pub returns : goal.returns
returns c =
    let m = c.args.machine.now in
    ap (λ (o : Option ℕ). triggers_at m.core.controls o) c.waits_beside.ensures
    ∙ sym (awaited_beside c.args.held.now m.core.controls (state_at m).processes c.args.process c.control_of.result (sym c.control_of.ensures))
