-- Those that were looked at are alike.
use Rattle.std.proofs.Common.{◌≡◌, ℕ, ◌<◌, get_or}
use Rattle.model.specs.declared.entry.Entry.{Entry}
use Rattle.model.specs.declared.end.End.{End}
use Rattle.explore.specs.declared.Shown.{Shown}
use Rattle.naming.specs.TextOrders.{PrintsAtTimes}
use Rattle.naming.proofs.alone.are_alike.Given as goal

abbrev pub invariant-loop-place : goal.invariant-loop-place
invariant-loop-place l =
    (k : ℕ) (d : Shown Entry End) → k < l.place → ((get_or l.shown k d).end ≡ l.end) × PrintsAtTimes l.design (get_or l.shown k d).moves.items l.lines
