use Rattle.std.proofs.Common.{◌<◌, ℕ, get_or}
use Rattle.std.specs.List.{All}
use Rattle.model.specs.declared.end.Limits.{Limits}
use Rattle.design.specs.Compiled.{Compiled}
use Rattle.runs.specs.RunRecords.{IsRun}
use Rattle.races.specs.declared.told.Race.{Race}
use Rattle.program.specs.Findings.{AreFew, HasGrown, IsKnown, IsLawfulShown}
use Rattle.program.proofs.known.KnownTexts.add_races.Given as goal

abbrev pub invariant-loop-race : goal.invariant-loop-race
invariant-loop-race l = record {
  few : AreFew l.self;
  grows : HasGrown l.fn.self l.self;
  lawful : (code : Compiled) (limits : Limits) → All (λ (race : Race). IsRun code limits race.exchanged) l.races → All (IsLawfulShown code limits) l.fn.self.shown.items → All (IsLawfulShown code limits) l.self.shown.items;
  known : (k : ℕ) (d : Race) → k < l.race-index → IsKnown l.self.most l.self.shown.items (get_or l.races k d).exchanged;
}
