-- The time passes in both, and these registers differ.
use Rattle.std.proofs.Common.{rules}
use Rattle.regions.specs.Machine.{state_at}
use Rattle.races.proofs.unseen.difference_at.Goals as goal

pub returns-then-passes_in_both : goal.returns-then-passes_in_both
returns-then-passes_in_both c = record {
  first = state_at c.args.one.now;
  passes_first = c.passes_in_both.ensures.one c.if-passes_in_both.true;
  second = state_at c.args.other.now;
  passes_second = c.passes_in_both.ensures.other c.if-passes_in_both.true;
  some = search rules;
  registers_are = c.in_ok-registers.ensures;
}
