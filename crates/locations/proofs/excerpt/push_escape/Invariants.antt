-- The characters so far stand behind the text.
use Rattle.std.proofs.Common.{◌≡◌, ◌++◌}
use Rattle.std.specs.Prelude.{encode_utf8_all, string_bytes}
use Rattle.locations.proofs.excerpt.push_escape.Given as goal

abbrev pub invariant-loop-letter : goal.invariant-loop-letter
invariant-loop-letter l = string_bytes l.text ≡ string_bytes l.fn.text ++ encode_utf8_all l.yielded
