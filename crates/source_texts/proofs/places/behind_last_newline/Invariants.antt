-- What the bytes that are left make of the count.
use Rattle.std.proofs.Common.{◌≡◌, length}
use Rattle.source_texts.specs.Lines.{bytes_behind}
use Rattle.source_texts.proofs.places.behind_last_newline.Given as goal

abbrev pub invariant-loop-left : goal.invariant-loop-left
invariant-loop-left l = bytes_behind l.count l.left ≡ bytes_behind 0 l.text

abbrev pub decreases-loop-left : goal.decreases-loop-left
decreases-loop-left l = length l.left
