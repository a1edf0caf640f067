-- The start is there, and where the moves go that were looked at.
use Rattle.std.proofs.Common.{◌≡◌, ◌<◌, ℕ, get_or}
use Rattle.std.specs.List.{Contains}
use Rattle.certificates.specs.declared.changes.NotedChange.{NotedChange}
use Rattle.passing.proofs.choices.values_of.Given as goal

abbrev pub invariant-loop-place : goal.invariant-loop-place
invariant-loop-place l = record {
  start : Contains l.values.items l.fn.start;
  after : (k : ℕ) (d : NotedChange) → k < l.place → (get_or l.list k d).register ≡ l.register → Contains l.values.items (get_or l.list k d).after;
}
