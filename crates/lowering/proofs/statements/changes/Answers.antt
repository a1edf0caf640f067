use Rattle.statement_parts.specs.Statements.{plain_of}
use Rattle.statement_parts.specs.Places.{surroundings}
use Rattle.lowering.proofs.Parts.{events_changes, implicit_changes}
use Rattle.lowering.proofs.statements.changes.Goals as goal

pub returns-in-Events : goal.returns-in-Events
returns-in-Events c =
    events_changes (surroundings c.args.around.design.now) c.args.around.scope c.args.control.now c.in-Events.events c.as_slice.result.now (plain_of c.args.s.now) c.events_at.result c.in-Events.is c.as_slice.ensures.value c.events_at.ensures

pub returns-in-Implicit : goal.returns-in-Implicit
returns-in-Implicit c = implicit_changes (surroundings c.args.around.design.now) c.args.around.scope c.args.control.now (plain_of c.args.s.now) c.implicit_changes.result c.in-Implicit.is c.implicit_changes.ensures
