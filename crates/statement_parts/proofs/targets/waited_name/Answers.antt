-- Any change of the named event is waited for.
use Rattle.std.proofs.Common.{option_map, string_bytes, sym, ap, ◌∙◌}
use Rattle.statement_parts.specs.Places.{surroundings}
use Rattle.statement_parts.proofs.Meant.{event_waits}
use Rattle.statement_parts.proofs.targets.waited_name.Goals as goal

pub returns-then-is_any : goal.returns-then-is_any
returns-then-is_any c =
    event_waits (surroundings c.args.design.now) c.args.scope c.args.event.now (string_bytes c.in-Some.name) (ap (option_map string_bytes) (sym c.in-Some.is) ∙ c.in_ok-name.ensures) (c.is_any.ensures c.if-is_any.true)
