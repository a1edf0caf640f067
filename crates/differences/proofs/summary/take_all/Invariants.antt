-- The machine stands behind the entries so far.
use Rattle.std.proofs.Common.{◌≡◌, ◌≤◌, length, take}
use Rattle.replay.specs.Replays.{IsBehind}
use Rattle.differences.proofs.summary.take_all.Given as goal

abbrev pub invariant-loop-at : goal.invariant-loop-at
invariant-loop-at g l = record {
  code : l.machine.code ≡ l.fn.machine.code;
  within : l.at ≤ length l.entries;
  run : IsBehind (take l.at l.entries) l.machine;
  entries : l.machine.core.entries ≡ l.at;
}
