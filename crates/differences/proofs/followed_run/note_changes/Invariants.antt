-- The changes so far are noted.
use Rattle.std.proofs.Common.{◌≡◌, ◌<◌, ◌==◌, ℕ, Some, if◌then◌else◌, length, take}
use Rattle.std.specs.Prelude.{slice_get}
use Rattle.std.specs.List.{list_any}
use Rattle.differences.proofs.followed_run.note_changes.Given as goal

abbrev pub invariant-loop-change : goal.invariant-loop-change
invariant-loop-change l = record {
  registers : length l.givers.items ≡ length l.fn.givers.items;
  noted : (r : ℕ) → r < length l.fn.givers.items
      → slice_get l.givers.items r ≡ (if list_any (λ c. c.register == r) (take l.change-index l.changes) then Some (Some l.giver) else slice_get l.fn.givers.items r);
}
