-- The slot is one of the table, which stays as long as it was.
use Rattle.std.proofs.Common.{◌≡◌, ◌<◌, length}
use Rattle.sharing.proofs.chunks.put.Given as goal

abbrev pub invariant-loop : goal.invariant-loop
invariant-loop l = record {
  within : l.at < l.count;
  same : length l.slots.items ≡ length l.fn.slots.items;
}
