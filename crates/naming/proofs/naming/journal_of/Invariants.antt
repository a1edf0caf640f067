-- None of those that were looked at has the run's journal.
use Rattle.std.proofs.Common.{ℕ, ◌<◌, get_or}
use Rattle.model.specs.declared.entry.Entry.{Entry}
use Rattle.model.specs.declared.end.End.{End}
use Rattle.explore.specs.declared.Shown.{Shown}
use Rattle.naming.specs.Naming.{HasJournal}
use Rattle.naming.proofs.naming.journal_of.Given as goal

abbrev pub invariant-loop-place : goal.invariant-loop-place
invariant-loop-place l = (k : ℕ) (d : Shown Entry End) → k < l.place → HasJournal l.run (get_or l.shown k d) → ⊥
