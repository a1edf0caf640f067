use Rattle.std.proofs.Common.{◌∙◌}
use Rattle.design.proofs.processes.emit_processes.Goals as goal

pub emit_each-requires-clause-empty : goal.emit_each-requires-clause-empty
emit_each-requires-clause-empty c = c.in_ok-emitter.ensures

pub emit_each-requires-clause-tabled : goal.emit_each-requires-clause-tabled
emit_each-requires-clause-tabled c = c.deref.ensures.value ∙ c.in_ok-table.ensures
