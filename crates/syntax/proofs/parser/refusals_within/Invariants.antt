-- Each refusal so far is kept, and names a token or the end.
use Rattle.std.proofs.Common.{◌≡◌, length}
use Rattle.syntax.specs.Faults.{AreInText}
use Rattle.syntax.proofs.parser.refusals_within.Given as goal

abbrev pub invariant-loop-refusal : goal.invariant-loop-refusal
invariant-loop-refusal l = record { within : AreInText l.all l.kept.items; each : length l.kept.items ≡ l.refusal-index }
