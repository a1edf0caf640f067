-- The target is waited for.
use Rattle.std.proofs.Common.{string_bytes}
use Rattle.statement_parts.specs.Places.{surroundings}
use Rattle.statement_parts.proofs.Meant.{variable_waits}
use Rattle.statement_parts.proofs.targets.waited_variable.Goals as goal

pub returns : goal.returns
returns c =
    variable_waits (surroundings c.args.design.now) c.args.scope _ c.args.event.now (string_bytes c.in_ok-target.target.name) c.in_ok-target.target.width c.place-here.ensures c.in_ok-target.ensures
