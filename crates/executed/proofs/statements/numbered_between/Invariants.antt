-- The numbers of the nodes that were looked at, and how often these do what is looked for.
use Rattle.std.proofs.Common.{◌≡◌}
use Rattle.std.specs.List.{All}
use Rattle.executed.specs.RunNumbers.{IsNumberBetween, times_between}
use Rattle.executed.proofs.statements.numbered_between.Given as goal

abbrev pub invariant-loop-place : goal.invariant-loop-place
invariant-loop-place l = record {
  total_is : l.total ≡ times_between l.wanted.design.now l.deed l.first l.place;
  numbers_are : All (IsNumberBetween l.wanted.design.now l.deed l.first l.place) l.numbers.items;
}
