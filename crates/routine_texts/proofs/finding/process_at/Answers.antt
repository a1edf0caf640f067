use Rattle.routine_texts.proofs.Processes.{found_among}
use Rattle.routine_texts.proofs.finding.process_at.Goals as goal

pub returns : goal.returns
returns c = found_among c.args.processes.now c.partition_point-number.result c.args.token c.in-Some.process c.at_token.result c.in-Some.ensures c.at_token.ensures
