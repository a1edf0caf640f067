-- None of those that were looked at is of the pair.
use Rattle.std.proofs.Common.{◌≡◌, ℕ, ◌<◌, get_or}
use Rattle.races.specs.declared.told.Race.{Race}
use Rattle.races.specs.Races.{AreOfSame}
use Rattle.races.proofs.trials.is_told.Given as goal

abbrev pub invariant-loop-race : goal.invariant-loop-race
invariant-loop-race l =
    (k : ℕ) (d : Race) → k < l.race-index → (get_or l.races k d).site ≡ l.pair.site
    → AreOfSame (get_or l.races k d).first (get_or l.races k d).second l.pair.first l.pair.second → ⊥
