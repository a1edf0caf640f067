-- What is refused so far.
use Rattle.std.proofs.Common.{◌≡◌, map, take}
use Rattle.whole_designs.specs.Refusals.{refused_at}
use Rattle.whole_designs.proofs.whole.of_syntax.Given as goal

abbrev pub invariant-loop-refusal : goal.invariant-loop-refusal
invariant-loop-refusal l = l.faults.items ≡ map (refused_at l.tokens) (take l.refusal-index l.refusals)
