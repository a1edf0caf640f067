-- What is told of two journals beside each other.
use Rattle.std.specs.Prelude.{◌≡◌, ℕ, ◌&&◌, min, not, Bool, List, ◌++◌, length, flat_map, Some, string_bytes}
use Rattle.model.specs.declared.entry.Entry.{Entry}
use Rattle.model.specs.Design.{Design}
use Rattle.model.specs.States.{State}
use Rattle.model.specs.Runs.{Effect, has_any, is_quiet, run}
use Rattle.design.specs.Compiled.{Compiled, design_of}
use Rattle.locations.specs.declared.location.ProcessLocation.{ProcessLocation}
use Rattle.explain.specs.declared.phrases.SourceNames.{SourceNames}
use Rattle.explain.specs.EntryLines.{plain_style}
use Rattle.explain.specs.ExplainedEnd.{IsEndText}
use Rattle.differences.specs.declared.comparison.Comparison.{Comparison}
use Rattle.differences.specs.declared.ends.EndsCompared.{EndsCompared}
use Rattle.differences.specs.declared.summary.RunSummary.{RunSummary}
use Rattle.differences.specs.declared.value_difference.ValueDifference.{ValueDifference}
use Rattle.differences.specs.Parting.{PartBehind}
use Rattle.differences.specs.EndsOfRuns.{HowEndsCompare, HowRunsEnd, are_alike}
use Rattle.differences.specs.ComparedValues.{AreComparedTimes, rows_at}
use Rattle.differences.specs.ToldRows.{told_rows}
use Rattle.differences.specs.ComparedLines.{IsLinesText, IsPartingText, ends_text, earlier_end_text, values_text}

-- the time at which the first of two runs ends
abbrev pub last_compared : State → State → ℕ
last_compared one other = min one.time other.time

-- These are the registers that differ at the times that end in one of two journals and aren't past the last one.
pub record AreRowsUpTo (design : Design) (first second : List Entry) (last : ℕ) (rows : List ValueDifference) : Type 0 where
  pub times : List ℕ
  pub are_times : AreComparedTimes first second last times
  pub rows_are : rows ≡ flat_map (rows_at design first second) times

-- What is told of two runs and of the registers that differ, each at each time or not, was put behind a text, and whether they are the same.
pub record PutsTold (names : SourceNames) (all : Bool) (one other : RunSummary) (rows : List ValueDifference) (old new : List ℕ) (same : Bool) : Type 0 where
  pub same_lines : Bool
  pub printed : List ℕ
  pub is_printed : IsLinesText (string_bytes one.lines) (string_bytes other.lines) same_lines printed
  pub ends : EndsCompared
  pub ends_are : HowEndsCompare one.time one.finished one.quiet other.time other.finished other.quiet ends
  pub put : new
      ≡ old ++ printed ++ ends_text ends one.finished one.quiet one.time one.ending.items other.ending.items ++ values_text names all rows
      ++ earlier_end_text one.time other.time
  pub same_is : same ≡ (same_lines && (are_alike ends && not (has_any rows)))

-- What is told of the two lawful journals, by these names: where they part, in which line they differ first, how they end, and each
-- register that differs at a time that ends in one of them and isn't past the end of either, at each such time or at the first. They are
-- the same where they print the same lines, end alike, and no register differs.
pub record IsCompared (names : SourceNames) (all : Bool) (design : Design) (first second : List Entry) (r : Comparison) : Type 0 where
  pub one : Effect
  pub is_one : run design first ≡ Some one
  pub other : Effect
  pub is_other : run design second ≡ Some other
  pub count : ℕ
  pub part : PartBehind first second count
  pub parting : List ℕ
  pub is_parting : IsPartingText names first second count parting
  pub same_lines : Bool
  pub printed : List ℕ
  pub is_printed : IsLinesText one.lines other.lines same_lines printed
  pub one_end : List ℕ
  pub is_one_end : IsEndText one.state (length first) one_end
  pub other_end : List ℕ
  pub is_other_end : IsEndText other.state (length second) other_end
  pub times : List ℕ
  pub are_times : AreComparedTimes first second (last_compared one.state other.state) times
  pub ends : EndsCompared
  pub ends_are : HowRunsEnd one.state other.state ends
  pub text_is : r.text.items
      ≡ parting ++ printed ++ ends_text ends one.state.finished (is_quiet one.state) one.state.time one_end other_end
      ++ values_text names all (told_rows all (flat_map (rows_at design first second) times))
      ++ earlier_end_text one.state.time other.state.time
  pub same_is : r.same ≡ (same_lines && (are_alike ends && not (has_any (flat_map (rows_at design first second) times))))

-- so they are compared on a design, whose registers and processes name them
pub record IsComparison (processes : List ProcessLocation) (code : Compiled) (all : Bool) (first second : List Entry) (r : Comparison) : Type 0 where
  pub names : SourceNames
  pub design_is : names.design.now ≡ code
  pub processes_are : names.processes.now ≡ processes
  pub style_is : names.style ≡ plain_style
  pub compared : IsCompared names all (design_of code) first second r
