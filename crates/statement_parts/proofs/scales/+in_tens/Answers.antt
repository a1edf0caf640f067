use Rattle.std.proofs.Common.{arith}
use Rattle.statement_parts.proofs.Tens.{long_in_tens, further_in_tens}
use Rattle.statement_parts.proofs.scales.+in_tens.Goals as goal

pub returns-then-number-gt-LONGEST : goal.returns-then-number-gt-LONGEST
returns-then-number-gt-LONGEST t c = long_in_tens c.args.number c.args.power c.if-number-gt-LONGEST.true

pub returns : goal.returns
returns t c = further_in_tens c.in_tens.result c.args.number c.args.power (omega (arith, c.if-power-eq0.false)) c.in_tens.ensures
