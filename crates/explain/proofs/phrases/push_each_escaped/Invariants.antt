-- What is still to be put are the bytes that are left.
use Rattle.std.proofs.Common.{◌≡◌, ◌++◌, drop}
use Rattle.explain.specs.Phrases.{escaped_text}
use Rattle.explain.proofs.phrases.push_each_escaped.Given as goal

abbrev pub invariant-loop-byte : goal.invariant-loop-byte
invariant-loop-byte l = l.text.items ++ escaped_text (drop l.byte-index l.printed) ≡ l.fn.text.items ++ escaped_text l.printed
