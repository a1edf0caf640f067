-- The chunks so far and what is left are the bytes, and each chunk so far has 32 bytes or more.
use Rattle.std.proofs.Common.{◌≡◌, ◌+◌, ◌*◌, ◌≤◌, ◌++◌, length}
use Rattle.sharing.specs.Parts.{chunks, joined_chunks, AreChunks, AreThere, Extends}
use Rattle.sharing.specs.declared.chunks.Unknown.TheVariants as Unknown
use Rattle.sharing.proofs.cut.cut.Given as goal

abbrev pub invariant-chunks : goal.invariant-chunks
invariant-chunks l = record {
  whole : AreChunks l.held;
  grows : Extends (chunks l.fn.held) (chunks l.held);
  same : l.unknown ≡ Unknown.Missed → chunks l.held ≡ chunks l.fn.held;
  there : AreThere (chunks l.held) l.numbers.items;
  joined : joined_chunks (chunks l.held) l.numbers.items ++ l.rest ≡ l.bytes;
  few : 32 * length l.numbers.items + length l.rest ≤ length l.bytes;
}

abbrev pub decreases-chunks : goal.decreases-chunks
decreases-chunks l = length l.rest
