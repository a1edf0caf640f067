-- The words so far stand behind the others.
use Rattle.std.proofs.Common.{◌≡◌, take}
use Rattle.arguments.specs.CommandWords.{texts_of}
use Rattle.arguments.specs.VerilogWords.{plain_said, with_places}
use Rattle.arguments.proofs.said_words.SaidWords.take_places.Given as goal

abbrev pub invariant-loop-word : goal.invariant-loop-word
invariant-loop-word l = plain_said l.self ≡ with_places (plain_said l.fn.self) (texts_of (take l.word-index l.words))
