-- The words so far stand behind the others.
use Rattle.std.proofs.Common.{◌≡◌, ◌++◌, map, take}
use Rattle.std.specs.Prelude.{string_bytes}
use Rattle.arguments.proofs.verilog_words.push_words.Given as goal

abbrev pub invariant-loop-word : goal.invariant-loop-word
invariant-loop-word l = map string_bytes l.line.items ≡ map string_bytes l.fn.line.items ++ map (λ word. word.now) (take l.word-index l.words)
