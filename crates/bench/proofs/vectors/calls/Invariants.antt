-- The operands keep one width, and the result has its own.
use Rattle.std.proofs.Common.{◌≡◌, ◌≤◌, length}
use Rattle.bench.proofs.vectors.calls.Given as goal

abbrev pub invariant-loop-turn : goal.invariant-loop-turn
invariant-loop-turn g l = record {
  step : length l.operand ≡ length l.step;
  other : length l.operand ≡ length l.other;
  narrow : length l.operand ≤ 32;
  found : length l.found ≡ 64;
}
