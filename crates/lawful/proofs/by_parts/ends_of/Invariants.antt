-- These are the ends at the successors so far.
use Rattle.lawful.specs.ByParts.{AreEndsOf}
use Rattle.lawful.proofs.by_parts.ends_of.Given as goal

abbrev pub invariant-loop-next : goal.invariant-loop-next
invariant-loop-next l = AreEndsOf l.yielded l.ended.items
