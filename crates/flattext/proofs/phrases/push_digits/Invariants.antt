-- The digits from a place on are put.
use Rattle.std.proofs.Common.{◌≡◌, ◌++◌, drop}
use Rattle.logic4.specs.Display.{binary_text}
use Rattle.flattext.proofs.phrases.push_digits.Given as goal

abbrev pub invariant-loop-index : goal.invariant-loop-index
invariant-loop-index l = l.text.items ≡ l.fn.text.items ++ binary_text (drop l.index l.value)
