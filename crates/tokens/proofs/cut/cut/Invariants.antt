-- A cut of what is left completes a cut of the text, and so does a place where the cut stops.
use Rattle.std.proofs.Common.{ℕ, ◌+◌, ◌-◌, ◌≤◌, ◌++◌, map, length}
use Rattle.tokens.specs.Tokens.{PlainTokens, plain_token}
use Rattle.tokens.specs.Lexing.{Cut, CutCause, Stops}
use Rattle.tokens.proofs.cut.cut.Given as goal

abbrev pub invariant-loop-left : goal.invariant-loop-left
invariant-loop-left l = record {
  within : length l.left ≤ length l.text;
  cuts : (ts : PlainTokens) → Cut l.left ts → Cut l.text (map plain_token l.found.items ++ ts);
  stops : (cause : CutCause) (n : ℕ) → Stops l.left cause n → Stops l.text cause ((length l.text - length l.left) + n);
}

abbrev pub decreases-loop-left : goal.decreases-loop-left
decreases-loop-left l = length l.left
