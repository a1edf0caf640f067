-- What the arguments so far show is shown.
use Rattle.std.proofs.Common.{map, length}
use Rattle.design_scopes.specs.Places.{means}
use Rattle.statement_parts.specs.Statements.{plain_argument}
use Rattle.lowering.specs.Shown.{shown_in}
use Rattle.lowering.proofs.Formats.{PrintSoFar}
use Rattle.lowering.proofs.prints.print_shown.Given as goal

abbrev pub invariant-loop-left : goal.invariant-loop-left
invariant-loop-left l = PrintSoFar (means l.at.place) l.at.path.now (map plain_argument l.arguments) (map plain_argument l.left) (shown_in l.shown)

abbrev pub decreases-loop-left : goal.decreases-loop-left
decreases-loop-left l = length l.left
