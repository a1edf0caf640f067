-- What is found, and the text of what is left, are the whole text.
use Rattle.std.proofs.Common.{◌≡◌, ◌++◌, length, false}
use Rattle.tokens.specs.Lexing.{string_text_from}
use Rattle.grammar.proofs.strings.string_text.Given as goal

abbrev pub invariant-loop-left : goal.invariant-loop-left
invariant-loop-left l = string_text_from false l.text ≡ l.found.items ++ string_text_from l.after l.left

abbrev pub decreases-loop-left : goal.decreases-loop-left
decreases-loop-left l = length l.left
