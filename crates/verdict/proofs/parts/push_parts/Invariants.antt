-- The parts so far stand behind the text.
use Rattle.std.proofs.Common.{◌≡◌, ◌++◌, take}
use Rattle.verdict.specs.LineParts.{line_parts_text}
use Rattle.verdict.proofs.parts.push_parts.Given as goal

abbrev pub invariant-loop-part : goal.invariant-loop-part
invariant-loop-part l = l.text.items ≡ l.initial.text.items ++ line_parts_text (take l.part-index l.parts)
