-- The runs so far are shown.
use Rattle.std.proofs.Common.{string_bytes}
use Rattle.std.specs.List.{All, Any}
use Rattle.explore.specs.Search.{IsShown}
use Rattle.program.specs.Findings.{IsShownWanted, IsWantedRun}
use Rattle.program.proofs.sampling.shown_of.Given as goal

abbrev pub invariant-loop-run : goal.invariant-loop-run
invariant-loop-run l = record {
  from : All (λ s. Any (λ run. IsShownWanted l.all run s) l.yielded) l.shown.items;
  there : All (λ run. IsWantedRun l.all run → IsShown l.shown.items (string_bytes run.lines) run.end) l.yielded;
}
