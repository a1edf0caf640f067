-- What is found from here on, with what was found before, is what is found in all.
use Rattle.std.proofs.Common.{◌≡◌, ◌+◌, length, false}
use Rattle.diagnosis.specs.Lexemes as spec
use Rattle.diagnosis.proofs.lexemes.string_len.Given as goal

abbrev pub invariant-loop-left : goal.invariant-loop-left
invariant-loop-left l = record {
  value : spec.lexeme_string_len 0 false l.text ≡ spec.lexeme_string_len l.n l.after l.left;
  within : l.n + length l.left ≡ length l.text;
}

abbrev pub decreases-loop-left : goal.decreases-loop-left
decreases-loop-left l = length l.left
