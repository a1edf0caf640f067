use Rattle.std.proofs.Common.{subst, sym, arith}
use Rattle.runs.specs.RunRecords.{IsRun}
use Rattle.races.specs.declared.told.Race.{Race}
use Rattle.program.proofs.Knowing.{grown_through, known_each}
use Rattle.program.proofs.known.KnownTexts.add_races.Goals as goal

pub loop-race-preserved : goal.loop-race-preserved
loop-race-preserved c = record {
  few = c.in_ok-add_run.ensures.few;
  grows = grown_through c.args.self.now c.loop-race.self c.add_run.new.self c.loop-race.invariant.grows c.in_ok-add_run.ensures.grows;
  lawful = λ code limits all known.
      c.in_ok-add_run.ensures.lawful code limits (subst (λ (race : Race). IsRun code limits race.exchanged) (sym c.race-item.is) (all c.loop-race.race-index c.race-item.result c.loop-race-test.true))
      (c.loop-race.invariant.lawful code limits all known);
  known = λ k d lt.
      known_each c.loop-race.self c.add_run.new.self c.args.races.now c.loop-race.race-index c.race-item.result c.in_ok-add_run.ensures.grows c.in_ok-add_run.ensures.few.few c.race-item.is c.loop-race-test.true
      c.loop-race.invariant.known c.in_ok-add_run.ensures.known k d (omega (arith, lt));
}
