use Rattle.explore.proofs.TextEdges.{group_at}
use Rattle.explore.proofs.line_groups.LineGroups.find.Goals as goal

pub returns : goal.returns
returns c = group_at c.args.self.now.groups.keys c.in_ok-number.number _ c.args.group.now c.in_ok-number.ensures.stored c.in_ok-number.ensures.index
