-- The spaces of the levels so far are put.
use Rattle.std.proofs.Common.{◌≡◌, ◌++◌}
use Rattle.flattext.specs.Phrases.{indent}
use Rattle.flattext.proofs.phrases.push_indent.Given as goal

abbrev pub invariant-loop-level : goal.invariant-loop-level
invariant-loop-level l = l.text.items ≡ l.fn.text.items ++ indent l._level
