use Rattle.sharing.specs.Parts.{Extends}
use Rattle.explore.proofs.again.drop_astray.Given as goal

abbrev pub invariant-loop : goal.invariant-loop
invariant-loop g l = record { front : Extends l.checkpoints.nodes.items l.fn.checkpoints.nodes.items }
