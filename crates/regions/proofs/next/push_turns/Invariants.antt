use Rattle.std.proofs.Common.{◌≡◌, ◌++◌, map, take}
use Rattle.regions.specs.EvaluationEntries.{turn_entry_of}
use Rattle.regions.proofs.next.push_turns.Given as goal

abbrev pub invariant-loop-evaluation : goal.invariant-loop-evaluation
invariant-loop-evaluation l = l.turns.items ≡ l.initial.turns.items ++ map turn_entry_of (take l.evaluation-index l.evaluations)
