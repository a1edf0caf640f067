-- What the format shows so far is shown.
use Rattle.std.proofs.Common.{map, length}
use Rattle.design_scopes.specs.Places.{means}
use Rattle.statement_parts.specs.Statements.{plain_argument}
use Rattle.lowering.specs.Shown.{shown_in}
use Rattle.lowering.proofs.Formats.{FormatSoFar}
use Rattle.lowering.proofs.prints.PrintParts.add_format.Given as goal

abbrev pub invariant-loop-text : goal.invariant-loop-text
invariant-loop-text l =
    FormatSoFar (means l.at.place) l.at.path.now l.format l.text (map plain_argument l.arguments) (map plain_argument l.left) (shown_in l.initial.self) (shown_in l.self)

abbrev pub decreases-loop-text : goal.decreases-loop-text
decreases-loop-text l = length l.text
