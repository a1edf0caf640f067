-- A node more, and the last part of all.
use Rattle.std.proofs.Common.{List, subst}
use Rattle.explore.specs.Grown.{IsLastPart}
use Rattle.explore.specs.declared.recent.Placed.{Placed}
use Rattle.explore.proofs.recent.Recent.push.Goals as goal

pub returns : goal.returns
returns g c = subst (λ (l : List (Placed g.row.N.Denot)). IsLastPart c.trim.new.self.nodes.items l) c.in_ok-push_back.ensures.items c.trim.ensures
