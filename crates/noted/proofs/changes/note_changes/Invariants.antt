-- The changes of the first writes are noted.
use Rattle.std.proofs.Common.{◌≡◌, ◌++◌, take}
use Rattle.footprints.specs.Footprints.{changes_made}
use Rattle.noted.proofs.changes.note_changes.Given as goal

abbrev pub invariant-loop-place : goal.invariant-loop-place
invariant-loop-place l = l.changes ≡ l.fn.changes ++ changes_made l.store (take l.place l.writes)
