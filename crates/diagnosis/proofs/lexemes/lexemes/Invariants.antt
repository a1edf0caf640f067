-- Lexemes of what is left complete those that were found.
use Rattle.std.proofs.Common.{◌≡◌, ◌-◌, ◌≤◌, ◌++◌, List, map, length}
use Rattle.locations.specs.Spots.{skip_len}
use Rattle.diagnosis.specs.Lexemes.{PlainLexeme, AreLexemes}
use Rattle.diagnosis.specs.PlainLexemes.{plain_lexeme}
use Rattle.diagnosis.proofs.lexemes.lexemes.Given as goal

abbrev pub invariant-loop-left : goal.invariant-loop-left
invariant-loop-left l = record {
  within : length l.left ≤ length l.source;
  at_token : skip_len l.left ≡ 0;
  lexemes : (ls : List PlainLexeme) → AreLexemes l.left (length l.source - length l.left) ls → AreLexemes l.source 0 (map plain_lexeme l.found.items ++ ls);
}

abbrev pub decreases-loop-left : goal.decreases-loop-left
decreases-loop-left l = length l.left
