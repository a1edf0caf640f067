use Rattle.std.proofs.Common.{◌∙◌}
use Rattle.routine_texts.proofs.Processes.{got_is}
use Rattle.routine_texts.proofs.finding.process_of.Goals as goal

pub returns : goal.returns
returns c = c.copied.ensures ∙ got_is c.args.processes.now c.args.number c.get.result c.get.ensures.lookup.3 c.get.ensures.lookup.1
