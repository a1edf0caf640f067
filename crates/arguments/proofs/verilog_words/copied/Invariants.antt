-- The words so far.
use Rattle.std.proofs.Common.{◌≡◌, map, take}
use Rattle.arguments.proofs.verilog_words.copied.Given as goal

abbrev pub invariant-loop-word : goal.invariant-loop-word
invariant-loop-word l = map (λ word. word.now) l.found.items ≡ map (λ word. word.now) (take l.word-index l.words)
