-- What the machine stands for is its design, its regions and its values.
use Rattle.std.proofs.Common.{subst}
use Rattle.std.specs.Prelude.{MatchResult}
use Rattle.regions.specs.Machine.{MachineView, state_at, IsEvaluated, IsUnevaluated}
use Rattle.regions.proofs.machine.Machine.evaluate.Goals as goal

pub returns : goal.returns
returns c =
    subst (λ (p : MachineView). MatchResult c.log_turn.result (IsEvaluated p.code (state_at p) c.args.number c.log_turn.new.log) (IsUnevaluated p.code (state_at p) c.args.number))
    c.self.view_is c.log_turn.ensures
