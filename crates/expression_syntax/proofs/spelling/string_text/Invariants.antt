-- What is found, and the text of what is left, are the whole text.
use Rattle.std.proofs.Common.{◌≡◌, ◌++◌, length}
use Rattle.expression_syntax.specs.Spelling.{unquoted_text, text_from}
use Rattle.expression_syntax.proofs.spelling.string_text.Given as goal

abbrev pub invariant-loop-left : goal.invariant-loop-left
invariant-loop-left l = unquoted_text l.text ≡ l.found.items ++ text_from l.before l.left

abbrev pub decreases-loop-left : goal.decreases-loop-left
decreases-loop-left l = length l.left
