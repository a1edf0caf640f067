use Rattle.std.proofs.Common.{ℕ, ◌<◌, get_or}
use Rattle.explore.specs.declared.Shown.{Shown}
use Rattle.explore.specs.Search.{Differs}
use Rattle.explore.proofs.show.is_shown.Given as goal

abbrev pub invariant-loop-one : goal.invariant-loop-one
invariant-loop-one g l = (k : ℕ) (d : Shown g.row.O-Move.Denot g.row.O-End.Denot) → k < l.one-index → Differs l.text.items l.end (get_or l.shown k d)
