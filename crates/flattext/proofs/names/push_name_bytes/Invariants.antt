-- What is still to be put are the bytes that are left.
use Rattle.std.proofs.Common.{◌≡◌, ◌++◌, drop}
use Rattle.flattext.specs.Names.{graphic_texts}
use Rattle.flattext.proofs.names.push_name_bytes.Given as goal

abbrev pub invariant-loop-byte : goal.invariant-loop-byte
invariant-loop-byte l = l.text.items ++ graphic_texts (drop l.byte-index l.bytes) ≡ l.fn.text.items ++ graphic_texts l.bytes
