use Rattle.std.proofs.Common.{ℕ, ◌<◌, get_or}
use Rattle.model.specs.declared.entry.Entry.{Entry}
use Rattle.model.specs.declared.end.End.{End}
use Rattle.explore.specs.declared.Shown.{Shown}
use Rattle.explore.specs.Search.{Differs}
use Rattle.program.proofs.known.is_there.Given as goal

abbrev pub invariant-loop-one : goal.invariant-loop-one
invariant-loop-one l = (k : ℕ) (d : Shown Entry End) → k < l.one-index → Differs l.text l.end (get_or l.shown k d)
