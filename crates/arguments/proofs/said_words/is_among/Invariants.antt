-- The word is one of all where it is one of those that are left.
use Rattle.std.proofs.Common.{◌≡◌, length, map}
use Rattle.arguments.specs.VerilogWords.{is_one_of}
use Rattle.arguments.proofs.said_words.is_among.Given as goal

abbrev pub invariant-loop-left : goal.invariant-loop-left
invariant-loop-left l = is_one_of (map (λ one. one.now) l.left) l.word ≡ is_one_of (map (λ one. one.now) l.all) l.word

abbrev pub decreases-loop-left : goal.decreases-loop-left
decreases-loop-left l = length l.left
