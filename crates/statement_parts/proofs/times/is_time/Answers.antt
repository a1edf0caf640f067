use Rattle.std.proofs.Common.{sym, ◌∙◌}
use Rattle.statement_parts.proofs.Clocks.{with_arguments}
use Rattle.statement_parts.proofs.times.is_time.Goals as goal

pub returns-else-is_empty : goal.returns-else-is_empty
returns-else-is_empty c =
    let a = c.in-SystemCall in
    c.if-is_empty.false ∙ sym (with_arguments c.args.e.now a.token a.name a.arguments c.as_slice.result.now a.is c.as_slice.ensures.value (sym c.is_empty.ensures ∙ c.if-is_empty.false))
