use Rattle.std.proofs.Common.{◌∙◌}
use Rattle.call_nodes.proofs.Choosing.{alternative_is}
use Rattle.call_nodes.proofs.nodes.alternative_node.Goals as goal

pub returns : goal.returns
returns c = alternative_is c.args.token c.one_branch.result c.in_ok-kept.branches c.in_ok-last.last _ c.args.otherwise c.in_ok-kept.ensures.1 c.one_branch.ensures (c.in_ok-last.ensures.ok ∙ c.in_ok-kept.ensures.0)
