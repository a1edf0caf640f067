use Rattle.std.proofs.Common.{◌∙◌}
use Rattle.design.proofs.Lines.{leads_by_table}
use Rattle.design.proofs.emitter.next_of.Goals as goal

pub returns : goal.returns
returns c = c.first_of.ensures ∙ leads_by_table c.args.table.now c.args.place c.args.statements.now c.args.after (record { body = 0; whole = 0 }) c.requires.some c.requires.measured
