use Rattle.std.specs.List.{All}
use Rattle.model.specs.declared.end.Limits.{Limits}
use Rattle.design.specs.Compiled.{Compiled}
use Rattle.runs.specs.RunRecords.{IsRun}
use Rattle.program.specs.Findings.{AreFew, HasGrown, IsLawfulShown}
use Rattle.program.proofs.known.KnownTexts.add_runs.Given as goal

abbrev pub invariant-loop-run : goal.invariant-loop-run
invariant-loop-run l = record {
  few : AreFew l.self;
  grows : HasGrown l.fn.self l.self;
  lawful : (code : Compiled) (limits : Limits) → All (IsRun code limits) l.runs → All (IsLawfulShown code limits) l.fn.self.shown.items → All (IsLawfulShown code limits) l.self.shown.items;
}
