-- The slot is one of the table.
use Rattle.std.proofs.Common.{◌<◌}
use Rattle.sharing.proofs.chunks.Chunks.find.Given as goal

abbrev pub invariant-loop : goal.invariant-loop
invariant-loop l = l.at < l.count
