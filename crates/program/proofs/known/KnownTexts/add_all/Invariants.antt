use Rattle.std.proofs.Common.{◌⊎◌}
use Rattle.std.specs.List.{All, Contains}
use Rattle.explore.specs.Search.{IsShown}
use Rattle.program.specs.Findings.{AreFew, HasGrown}
use Rattle.program.proofs.known.KnownTexts.add_all.Given as goal

abbrev pub invariant-loop-one : goal.invariant-loop-one
invariant-loop-one l = record {
  few : AreFew l.self;
  grows : HasGrown l.fn.self l.self;
  each : All (λ s. Contains l.fn.self.shown.items s ⊎ Contains l.fn.others.items s) l.self.shown.items;
  there : All (λ s. IsShown l.self.shown.items s.text.items s.end) l.yielded;
}
