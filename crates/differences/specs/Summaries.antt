-- What the run of a journal comes to.
use Rattle.std.specs.Prelude.{◌≡◌, List, length, Some, string_bytes}
use Rattle.model.specs.declared.entry.Entry.{Entry}
use Rattle.model.specs.Runs.{Effect, is_quiet, run}
use Rattle.design.specs.Compiled.{Compiled, design_of}
use Rattle.explain.specs.ExplainedEnd.{IsEndText}
use Rattle.differences.specs.declared.summary.RunSummary.{RunSummary}

-- The journal is lawful, and this comes of it: its lines, in words how its run stands, the time, whether it is finished, and whether
-- it is quiet.
pub record IsSummaryOf (code : Compiled) (journal : List Entry) (r : RunSummary) : Type 0 where
  pub effect : Effect
  pub is_run : run (design_of code) journal ≡ Some effect
  pub lines : string_bytes r.lines ≡ effect.lines
  pub ending : IsEndText effect.state (length journal) r.ending.items
  pub time : r.time ≡ effect.state.time
  pub finished : r.finished ≡ effect.state.finished
  pub quiet : r.quiet ≡ is_quiet effect.state
