-- The moves to the values that were looked at are there.
use Rattle.std.proofs.Common.{◌≡◌, ◌<◌, ℕ, true, get_or}
use Rattle.std.specs.List.{Contains}
use Rattle.logic4.specs.Vector.{Vector}
use Rattle.certificates.specs.declared.changes.NotedChange.{NotedChange}
use Rattle.passing.specs.Moves.{passes_by, move_of}
use Rattle.passing.proofs.choices.add_choices.Given as goal

abbrev pub invariant-loop-place : goal.invariant-loop-place
invariant-loop-place l = record {
  kept : (m : NotedChange) → Contains l.fn.choices.items m → Contains l.choices.items m;
  added : (k : ℕ) (d : Vector) → k < l.place → passes_by l.moves l.register l.before (get_or l.values k d) ≡ true → Contains l.choices.items (move_of l.register l.before (get_or l.values k d));
}
