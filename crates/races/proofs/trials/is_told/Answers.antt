-- One more that isn't of the pair.
use Rattle.std.proofs.Common.{◌≡◌}
use Rattle.races.specs.declared.told.Race.{Race}
use Rattle.races.specs.Races.{AreOfSame}
use Rattle.races.proofs.Kept.{below_more_read}
use Rattle.races.proofs.trials.is_told.Goals as goal

pub loop-race-preserved : goal.loop-race-preserved
loop-race-preserved c =
    below_more_read (λ (race : Race). race.site ≡ c.args.pair.site → AreOfSame race.first race.second c.args.pair.first c.args.pair.second → ⊥) c.args.races.now
    c.loop-race.race-index c.race-item.result c.loop-race-test.true c.race-item.is c.loop-race.invariant (c.is_of.ensures c.if-is_of.false)
