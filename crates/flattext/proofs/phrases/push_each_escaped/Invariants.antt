-- What is still to be put are the bytes that are left.
use Rattle.std.proofs.Common.{◌≡◌, ◌++◌, drop}
use Rattle.flattext.specs.Phrases.{escaped_bytes}
use Rattle.flattext.proofs.phrases.push_each_escaped.Given as goal

abbrev pub invariant-loop-byte : goal.invariant-loop-byte
invariant-loop-byte l = l.text.items ++ escaped_bytes (drop l.byte-index l.bytes) ≡ l.fn.text.items ++ escaped_bytes l.bytes
