-- The last directive is the last of those that are left, or the one that was found.
use Rattle.std.proofs.Common.{◌≡◌, None, drop}
use Rattle.source_texts.specs.Lines.{last_mark}
use Rattle.source_texts.proofs.places.mark_before.Given as goal

abbrev pub invariant-loop-mark : goal.invariant-loop-mark
invariant-loop-mark l = last_mark l.span l.found (drop l.mark-index l.lines) ≡ last_mark l.span None l.lines
