use Rattle.call_nodes.proofs.Choosing.{choice_is}
use Rattle.call_nodes.proofs.nodes.choice_node.Goals as goal

pub returns : goal.returns
returns c = choice_is c.args.token _ _ c.in_ok-branches.ensures
