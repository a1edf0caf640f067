-- One of the changes is waited for where one of those is that are left.
use Rattle.std.proofs.Common.{◌≡◌, map, drop}
use Rattle.footprints.specs.Footprints.{matches_any}
use Rattle.certificates.specs.Changes.{register_change_of}
use Rattle.noted.proofs.waking.is_met.Given as goal

abbrev pub invariant-loop-change : goal.invariant-loop-change
invariant-loop-change l = matches_any l.control (map register_change_of (drop l.change-index l.changes)) ≡ matches_any l.control (map register_change_of l.changes)
