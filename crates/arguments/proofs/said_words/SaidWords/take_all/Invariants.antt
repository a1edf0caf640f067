-- What the words that are left make of what is said so far is what all make of what was said before.
use Rattle.std.proofs.Common.{◌≡◌, length}
use Rattle.arguments.specs.CommandWords.{texts_of}
use Rattle.arguments.specs.VerilogWords.{plain_said, words_taken}
use Rattle.arguments.specs.declared.said_words.Awaited.TheVariants as awaits
use Rattle.arguments.proofs.said_words.SaidWords.take_all.Given as goal

abbrev pub invariant-loop-left : goal.invariant-loop-left
invariant-loop-left l = words_taken (plain_said l.self) l.awaited (texts_of l.left) ≡ words_taken (plain_said l.fn.self) awaits.Nothing (texts_of l.own)

abbrev pub decreases-loop-left : goal.decreases-loop-left
decreases-loop-left l = length l.left
