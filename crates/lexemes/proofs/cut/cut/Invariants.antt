-- A cut of what is left completes a cut of the text, and so does a place where the cut stops.
use Rattle.std.proofs.Common.{◌≤◌, length, All}
use Rattle.lexemes.specs.Places.{LiesIn}
use Rattle.lexemes.proofs.Chain.{Cuts, StopsToo}
use Rattle.lexemes.proofs.cut.cut.Given as goal

abbrev pub invariant-loop-left : goal.invariant-loop-left
invariant-loop-left l = record {
  within : length l.left ≤ length l.text;
  cuts : Cuts l.file l.text l.left l.after l.found.items;
  stops : StopsToo l.text l.left l.after;
  lies : All (LiesIn l.file (length l.text)) l.found.items;
}

abbrev pub decreases-loop-left : goal.decreases-loop-left
decreases-loop-left l = length l.left
