use Rattle.std.proofs.Common.{◌≡◌, ◌*◌, drop}
use Rattle.std.specs.Prelude.{string_bytes}
use Rattle.std.specs.List.{list_any}
use Rattle.logic4.specs.Display.{bytes_of, filled_text}
use Rattle.logic4.specs.Leading.{blank_of}
use Rattle.logic4.proofs.Bytes.{is_some}
use Rattle.logic4.proofs.bits.Bits.characters.Given as goal

abbrev pub invariant-loop-group : goal.invariant-loop-group
invariant-loop-group l =
    (l.begun ≡ list_any is_some (bytes_of (drop (8 * l.group) l.self)))
    × (string_bytes l.text ≡ filled_text (blank_of l.zeros) (bytes_of (drop (8 * l.group) l.self)))
