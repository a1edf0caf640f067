-- What the numbers tell at so many levels is the byte string, and each level has fewer numbers.
use Rattle.std.proofs.Common.{◌≡◌, ◌+◌, ◌<◌, ◌≤◌, length}
use Rattle.sharing.specs.Parts.{told, chunk_table, AreParts, HaveChunks, Extends}
use Rattle.sharing.specs.declared.chunks.Unknown.TheVariants as Unknown
use Rattle.sharing.proofs.parts.Parts.shortened.Given as goal

abbrev pub invariant-levels : goal.invariant-levels
invariant-levels l = record {
  whole : AreParts l.self;
  grows : Extends (chunk_table l.fn.self) (chunk_table l.self);
  same : l.unknown ≡ Unknown.Missed → chunk_table l.self ≡ chunk_table l.fn.self;
  told : told (chunk_table l.self) l.levels l.self.numbers.items ≡ l.bytes;
  held : HaveChunks (chunk_table l.self) l.levels l.self.numbers.items;
  some : 0 < length l.self.numbers.items;
  fewer : l.levels + length l.self.numbers.items ≤ length l.initial.self.numbers.items;
}

abbrev pub decreases-levels : goal.decreases-levels
decreases-levels l = length l.self.numbers.items
