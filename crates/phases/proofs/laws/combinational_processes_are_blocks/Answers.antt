use Rattle.phases.proofs.Blocks.{combinational_is_block}
use Rattle.phases.proofs.laws.combinational_processes_are_blocks.Goals as goal

pub returns : goal.returns
returns c = combinational_is_block
