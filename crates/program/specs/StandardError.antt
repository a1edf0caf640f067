-- What is told on standard error of how a command ended.
use Rattle.std.specs.Prelude.{◌≡◌, ◌⊎◌, ℕ, true, List, Option, Some, Result, Ok, Err, codes, string_bytes}
use Rattle.journal.specs.declared.counted.Counted.{Counted}
use Rattle.telling.specs.FaultLines.{Tells, shown_lines}
use Rattle.clap.specs.Words.{Text}
use Rattle.arguments.specs.CommandWords.{AreWrong, Begins}
use Rattle.arguments.specs.VerilogWords.{AskWhole, LacksWord}
use Rattle.program.specs.declared.ending.Ending.{Ending}
use Rattle.program.specs.declared.ending.Ending.TheVariants as ending
use Rattle.program.specs.declared.fault.CommandFault.{CommandFault}
use Rattle.program.specs.declared.fault.CommandFault.TheVariants as fault
use Rattle.program.specs.declared.fault.Stop.{Stop}
use Rattle.program.specs.declared.register_option.RegisterOption.{RegisterOption}
use Rattle.program.specs.declared.register_option.RegisterOption.TheVariants as options
use Rattle.program.specs.ProgramLines.{fault_line, no_register_line, stop_line}
use Rattle.program.specs.RegisterOptions.{word_of_option}
use Rattle.program.specs.declared.finding.SearchFinding.{SearchFinding}
use Rattle.program.specs.declared.finding.SearchFinding.TheVariants as finding
use Rattle.program.specs.Observed.{IsNameTold}
use Rattle.program.specs.Printed.{HasExplainedNone, HasExplainedPart, HasRun, HasSearched, HasSearchedBy, IsLeft}
use Rattle.program.specs.Program.{status_of, stop_status}
use Rattle.program.specs.Subjects.{Sources}
use Rattle.files.specs.Saved.{MadeFile}

-- nothing of what a search has come to, unless memory was refused to it
abbrev pub IsFindingTold : {E : Type 0} → (E → Option (List ℕ)) → Counted E → Counted E → SearchFinding → Type 0
IsFindingTold contents old new finding.One = new ≡ old
IsFindingTold contents old new finding.Unfinished = new ≡ old
IsFindingTold contents old new finding.Memory = Tells contents old new (fault_line fault.Memory)
IsFindingTold contents old new finding.Several = new ≡ old

-- nothing of what was done, so it is of what was found, the line of a stop, all that is said of a source with a fault, and the line of a name that no register has,
-- with the option that gave it
abbrev pub IsEndingTold : {E : Type 0} → (E → Option (List ℕ)) → Counted E → Counted E → RegisterOption → Ending → Type 0
IsEndingTold contents old new option ending.Done = new ≡ old
IsEndingTold contents old new option (ending.Stopped s) = Tells contents old new (stop_line s)
IsEndingTold contents old new option (ending.Found f) = IsFindingTold contents old new f
IsEndingTold contents old new option (ending.Wrong text) = Tells contents old new (string_bytes text)
IsEndingTold contents old new option (ending.NoRegister name) = Tells contents old new (no_register_line option (string_bytes name))
IsEndingTold contents old new option ending.Differ = new ≡ old

-- so it is of a command that came to its end, and of another the line of its fault
abbrev pub IsEndTold : {E : Type 0} → (E → Option (List ℕ)) → Counted E → Counted E → RegisterOption → Result Ending CommandFault → Type 0
IsEndTold contents old new option (Ok e) = IsEndingTold contents old new option e
IsEndTold contents old new option (Err f) = Tells contents old new (fault_line f)

-- What is told at a status: the line of a fault that has it, or of a stop; at 2 a text of wrong words, its control characters escaped, or the line of a name that no register has,
-- with the option of this command that gave it; at 3, of a check or of a whole design, what is wrong with a source; and nothing at 0 and 7, and at 4 where a search met a limit.
pub data IsReported {E : Type 0} (contents : E → Option (List ℕ)) (old new : Counted E) (words : List Text) (status : ℕ) : Type 0 where
  of_fault : (f : CommandFault) → status ≡ status_of f → Tells contents old new (fault_line f) → IsReported contents old new words status
  of_stop : (s : Stop) → status ≡ stop_status s → Tells contents old new (stop_line s) → IsReported contents old new words status
  of_words : (AreWrong words ⊎ LacksWord words) ⊎ (AskWhole words ≡ true) → status ≡ 2 → (text : List ℕ) → Tells contents old new (shown_lines text) → IsReported contents old new words status
  of_name : (option : RegisterOption) → Begins words (word_of_option option) → status ≡ 2 → (name : List ℕ) → Tells contents old new (no_register_line option name) → IsReported contents old new words status
  of_source : Begins words (codes "check") ⊎ (AskWhole words ≡ true) → status ≡ 3 → (text : List ℕ) → Tells contents old new text → IsReported contents old new words status
  nothing : (status ≡ 0) ⊎ ((status ≡ 4) ⊎ (status ≡ 7)) → new ≡ old → IsReported contents old new words status

-- a run was stopped, its stop has this status, and the line of its stop was told
pub record HasStopped {E : Type 0} (from : Sources) (words : List Text) (old new : Option (List ℕ)) (files files' : Option (List MadeFile)) (contents : E → Option (List ℕ)) (err err' : Counted E) (status : ℕ) : Type 0 where
  pub stop : Stop
  pub status_is : stop_status stop ≡ status
  pub has_run : HasRun from words old new files files' (Some stop)
  pub told : Tells contents err err' (stop_line stop)

-- so it is, or a search met a limit and found no second text, and nothing was told
abbrev pub IsUnfinished : {E : Type 0} → Sources → List Text → Option (List ℕ) → Option (List ℕ) → Option (List MadeFile) → Option (List MadeFile) → (E → Option (List ℕ)) → Counted E → Counted E → Type 0
IsUnfinished from words old new files files' contents err err' =
    HasStopped from words old new files files' contents err err' 4 ⊎ (HasSearched from words old new files files' finding.Unfinished × (err' ≡ err))

-- memory was refused to a search that found no second text, and the line of that was told
pub record HasSearchedInVain {E : Type 0} (from : Sources) (words : List Text) (old new : Option (List ℕ)) (files files' : Option (List MadeFile)) (contents : E → Option (List ℕ)) (err err' : Counted E) : Type 0 where
  pub has_searched : HasSearched from words old new files files' finding.Memory
  pub told : Tells contents err err' (fault_line fault.Memory)

-- a run was stopped for want of memory, or so was a search, and the line of that was told; or a command didn't come so far
abbrev pub IsWanting : {E : Type 0} → Sources → List Text → Option (List ℕ) → Option (List ℕ) → Option (List MadeFile) → Option (List MadeFile) → (E → Option (List ℕ)) → Counted E → Counted E → Type 0
IsWanting from words old new files files' contents err err' =
    (HasStopped from words old new files files' contents err err' 6 ⊎ HasSearchedInVain from words old new files files' contents err err') ⊎ IsLeft from words old new files files'

-- no journal was read, or one was told up to its fault, and the line of this very fault was told
pub record HasExplainedTold {E : Type 0} (from : Sources) (words : List Text) (old new : Option (List ℕ)) (contents : E → Option (List ℕ)) (err err' : Counted E) : Type 0 where
  pub fault : CommandFault
  pub explained : HasExplainedPart from words old new fault
  pub told : Tells contents err err' (fault_line fault)

-- The words ask by this option for registers of which this is the first name that no register of the design has which is asked for: for a search for races that observes
-- registers by their names, or to be told a journal, of registers by their names alone. Output and files are as they were.
abbrev pub HasNamedBy : RegisterOption → Sources → List Text → Option (List ℕ) → Option (List ℕ) → Option (List MadeFile) → Option (List MadeFile) → List ℕ → Type 0
HasNamedBy options.Observe from words old new files files' name = (end : Ending) × IsNameTold name end × HasSearchedBy from words old new files files' end
HasNamedBy options.Registers from words old new files files' name = HasExplainedNone from words old new files files' name

-- so it is, and the line of this name was told, with this option
pub record HasNamedNoRegister {E : Type 0} (from : Sources) (words : List Text) (old new : Option (List ℕ)) (files files' : Option (List MadeFile)) (contents : E → Option (List ℕ)) (err err' : Counted E) : Type 0 where
  pub name : List ℕ
  pub option : RegisterOption
  pub asked : HasNamedBy option from words old new files files' name
  pub told : Tells contents err err' (no_register_line option name)
