use Rattle.statement_parts.proofs.Tens.{rounded_further}
use Rattle.statement_parts.proofs.scales.+rounded.Goals as goal

pub returns-then-power-gt1 : goal.returns-then-power-gt1
returns-then-power-gt1 t c = rounded_further c.args.number c.args.power c.rounded.result c.if-power-gt1.true c.rounded.ensures
