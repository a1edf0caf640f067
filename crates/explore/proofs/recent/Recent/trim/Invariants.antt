use Rattle.explore.specs.Grown.{IsLastPart}
use Rattle.explore.proofs.recent.Recent.trim.Given as goal

abbrev pub invariant-loop : goal.invariant-loop
invariant-loop g l = record { part : IsLastPart l.self.nodes.items l.fn.self.nodes.items }
