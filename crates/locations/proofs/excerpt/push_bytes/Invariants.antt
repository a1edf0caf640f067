-- What is still to be put is what is made of the bytes that are left.
use Rattle.std.proofs.Common.{◌≡◌, ◌++◌, drop, flat_map}
use Rattle.std.specs.Prelude.{string_bytes}
use Rattle.locations.specs.ShownText.{shown_char}
use Rattle.locations.proofs.excerpt.push_bytes.Given as goal

abbrev pub invariant-loop-b : goal.invariant-loop-b
invariant-loop-b l = string_bytes l.text ++ flat_map (shown_char l.in_source) (drop l.b-index l.bytes) ≡ string_bytes l.fn.text ++ flat_map (shown_char l.in_source) l.bytes
