use Rattle.call_nodes.proofs.Choosing.{one_branch_is}
use Rattle.call_nodes.proofs.nodes.one_branch.Goals as goal

pub returns : goal.returns
returns c = one_branch_is c.new-branches.result.items c.push.new.self.items _ c.new-branches.ensures.items c.in_ok-push.ensures.items
