use Rattle.statement_forms.specs.Views.{core_triggers}
use Rattle.lowering.proofs.statements.awaited.Goals as goal

pub returns : goal.returns
returns c = (core_triggers c.in_ok-events.events, c.in_ok-events.ensures, c.await_of.ensures)
