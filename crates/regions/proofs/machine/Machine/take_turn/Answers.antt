-- The turn is applied with the log that was filled where the machine stands.
use Rattle.std.proofs.Common.{Some, sym, subst}
use Rattle.model.specs.declared.entry.Entry.TheVariants as entries
use Rattle.regions.specs.StepLogs.{IsTurnGiven}
use Rattle.regions.specs.Machine.{MachineView, state_at, position_of}
use Rattle.regions.proofs.Untaken.{stopped}
use Rattle.regions.proofs.machine.Machine.take_turn.Goals as goal

pub apply-requires-clause-given : goal.apply-requires-clause-given
apply-requires-clause-given c =
    subst (λ (p : MachineView). IsTurnGiven p.code (state_at p) (entries.Turn c.args.number) (Some c.args.log.now)) (sym c.self.view_is) c.requires.turn

pub returns-clause-stop : goal.returns-clause-stop
returns-clause-stop c =
    let m = c.self.inside in
    stopped c.apply.result (position_of m.design.now m.state m.store m.made) c.args.self.now (entries.Turn c.args.number) c.self.view_is c.apply.ensures.stop
