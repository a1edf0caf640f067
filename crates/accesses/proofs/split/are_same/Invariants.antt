-- The entries that were looked at are the same.
use Rattle.std.proofs.Common.{◌≡◌, ℕ, ◌<◌, get_or}
use Rattle.model.specs.declared.entry.Entry.{Entry}
use Rattle.accesses.proofs.split.are_same.Given as goal

abbrev pub invariant-loop-place : goal.invariant-loop-place
invariant-loop-place l = (k : ℕ) (d : Entry) → k < l.place → get_or l.one k d ≡ get_or l.other k d
