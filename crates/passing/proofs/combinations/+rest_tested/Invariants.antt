-- Each choice that was looked at passes, with the rest. The rest grows shorter.
use Rattle.std.proofs.Common.{ℕ, ◌<◌, ◌++◌, ◌∷◌, [], length, drop, get_or}
use Rattle.certificates.specs.declared.changes.NotedChange.{NotedChange}
use Rattle.passing.specs.Moves.{passes_by}
use Rattle.passing.specs.Combinations.{PassFrom}
use Rattle.passing.proofs.combinations.+rest_tested.Given as goal

abbrev pub decreases-rest_tested : goal.decreases-rest_tested
decreases-rest_tested l = length l.rest.now

abbrev pub invariant-loop-place : goal.invariant-loop-place
invariant-loop-place l =
    (k : ℕ) (d : NotedChange) → k < l.place → PassFrom l.scope.design.now l.scope.place.now l.scope.values.now l.scope.time (passes_by l.scope.moves.now) (l.chosen ++ get_or l.choices k d ∷ []) (drop 1 l.rest)
