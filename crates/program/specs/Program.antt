-- The exit statuses of the program.
use Rattle.std.specs.Prelude.{◌≡◌, ◌⊎◌, ℕ, Bool, true, false, List, [], Option, Some, None, Result, Ok, Err, string_bytes, codes, ◌∷◌, ◌++◌}
use Rattle.model.specs.declared.end.End.{End}
use Rattle.model.specs.declared.end.End.TheVariants as end
use Rattle.model.specs.declared.end.Why.{Why}
use Rattle.model.specs.declared.end.Why.TheVariants as why
use Rattle.arguments.specs.declared.request.NoRequest.{NoRequest}
use Rattle.arguments.specs.declared.request.NoRequest.TheVariants as no_request
use Rattle.program.specs.declared.fault.CommandFault.{CommandFault}
use Rattle.program.specs.declared.fault.CommandFault.TheVariants as fault
use Rattle.program.specs.declared.fault.JournalFault.{JournalFault}
use Rattle.program.specs.declared.fault.JournalFault.TheVariants as journals
use Rattle.program.specs.declared.ending.Ending.{Ending}
use Rattle.program.specs.declared.ending.Ending.TheVariants as ending
use Rattle.program.specs.declared.finding.SearchFinding.{SearchFinding}
use Rattle.program.specs.declared.finding.SearchFinding.TheVariants as finding
use Rattle.program.specs.declared.fault.Stop.{Stop}
use Rattle.program.specs.declared.fault.Stop.TheVariants as stop
use Rattle.files.specs.FileStatuses.{file_status}
use Rattle.explain.specs.declared.failure.ExplainFault.{ExplainFault}
use Rattle.explain.specs.declared.failure.ExplainFault.TheVariants as explaining
use Rattle.telling.specs.FaultLines.{shown_path}
use Rattle.workers.specs.declared.fault.SimFault.{SimFault}
use Rattle.vparse.specs.declared.parser.ParseFault.TheVariants as parsing
use Rattle.elaborate.specs.declared.fault.ElabFault.TheVariants as elaboration
use Rattle.frontend.specs.declared.source.SourceFault.{SourceFault}
use Rattle.frontend.specs.declared.source.SourceFault.TheVariants as source
use Rattle.journal.specs.declared.fault.ReadFault.{ReadFault}
use Rattle.journal.specs.declared.fault.ReadFault.TheVariants as reading
use Rattle.replay.specs.declared.fault.Cause.{Cause}
use Rattle.replay.specs.declared.fault.Cause.TheVariants as cause
use Rattle.replay.specs.declared.fault.BytesFault.{BytesFault}
use Rattle.replay.specs.declared.fault.BytesFault.TheVariants as replaying

-- a source that isn't run, or no memory for it
abbrev pub source_status_of : SourceFault → ℕ
source_status_of (source.Parse parsing.Memory) = 6
source_status_of (source.Elaborate elaboration.Memory) = 6
source_status_of f = 3

-- memory, or a worker that couldn't be started
abbrev pub simulate_status_of : SimFault → ℕ
simulate_status_of f = 6

-- a journal whose reading failed, or no memory for it, or a malformed one
abbrev pub read_status_of : ReadFault → ℕ
read_status_of reading.Read = 1
read_status_of reading.Memory = 6
read_status_of f = 5

-- no memory for a replay, or an unlawful journal
abbrev pub cause_status_of : Cause → ℕ
cause_status_of cause.ApplyMemory = 6
cause_status_of cause.Memory = 6
cause_status_of (cause.Start refused) = 6
cause_status_of c = 5

-- a fault of the source or of the journal, or one of output
abbrev pub replay_status_of : BytesFault → ℕ
replay_status_of (replaying.Source f) = source_status_of f
replay_status_of (replaying.Read f) = read_status_of f
replay_status_of (replaying.Replay f) = cause_status_of f.cause
replay_status_of replaying.CannotWrite = 1

-- a fault of one of two journals: of its text, or of an entry
abbrev pub journal_status_of : JournalFault → ℕ
journal_status_of (journals.Read f) = read_status_of f
journal_status_of (journals.Replay f) = cause_status_of f.cause

-- 1 files and output, 3 a source, 5 a journal, 6 memory or a worker that couldn't be started
abbrev pub status_of : CommandFault → ℕ
status_of (fault.Files f) = file_status f
status_of fault.Memory = 6
status_of (fault.Source f) = source_status_of f
status_of (fault.Simulate f) = simulate_status_of f
status_of (fault.Replay f) = replay_status_of f
status_of (fault.Journal side f) = journal_status_of f

-- a fault of a journal that is told in words: that of a replay, where a replay has it
abbrev pub explain_fault : ExplainFault → CommandFault
explain_fault (explaining.Read f) = fault.Replay (replaying.Read f)
explain_fault (explaining.Replay f) = fault.Replay (replaying.Replay f)
explain_fault explaining.CannotWrite = fault.Replay replaying.CannotWrite
explain_fault explaining.Memory = fault.Memory

-- what is told of a stop: `$finish` is none
abbrev pub stop_for : Why → Option Stop
stop_for why.Finish = None
stop_for why.Until = Some stop.Until
stop_for why.Entries = Some stop.Entries
stop_for (why.TooLong process) = Some (stop.TooLong process)
stop_for why.Time = Some stop.Time
stop_for why.Memory = Some stop.Memory

-- the run is quiet or stopped
abbrev pub IsEnded : End → Type 0
IsEnded (end.Stopped w) = Unit {0}
IsEnded end.Running = ⊥
IsEnded end.Quiet = Unit {0}

-- what is told of an end: the reason of a stop
abbrev pub stop_of : End → Option Stop
stop_of (end.Stopped w) = stop_for w
stop_of end.Running = None
stop_of end.Quiet = None

-- 4 for a limit, 6 for memory
abbrev pub stop_status : Stop → ℕ
stop_status stop.Memory = 6
stop_status s = 4

-- how a run ended of which this is told
abbrev pub ending_of : Option Stop → Ending
ending_of (Some s) = ending.Stopped s
ending_of None = ending.Done

-- how a comparison ended, by whether the journals are the same
abbrev pub compared_ending : Bool → Ending
compared_ending true = ending.Done
compared_ending false = ending.Differ

-- 0 for one text and no other, 4 where others may be possible, 6 where memory was refused to the search, 7 for several texts
abbrev pub finding_status : SearchFinding → ℕ
finding_status finding.One = 0
finding_status finding.Unfinished = 4
finding_status finding.Memory = 6
finding_status finding.Several = 7

-- 0 for what was done, 2 for a name that no register has, 3 for a source with a fault, 7 for journals that differ
abbrev pub ending_status : Ending → ℕ
ending_status ending.Done = 0
ending_status (ending.Stopped s) = stop_status s
ending_status (ending.Found f) = finding_status f
ending_status (ending.Wrong text) = 3
ending_status (ending.NoRegister name) = 2
ending_status ending.Differ = 7

-- a command that came to its end, or that met a fault
abbrev pub ended_status : Result Ending CommandFault → ℕ
ended_status (Ok e) = ending_status e
ended_status (Err f) = status_of f

-- words that make no request: 2 for wrong ones, and 1 for help that can't be shown
abbrev pub IsNoRequestStatus : NoRequest → ℕ → Type 0
IsNoRequestStatus (no_request.Help text) n = (n ≡ 0) ⊎ (n ≡ 1)
IsNoRequestStatus (no_request.Usage text) n = n ≡ 2
IsNoRequestStatus no_request.Memory n = n ≡ 6

-- what is shown on standard output of words that make no request
abbrev pub help_text : NoRequest → List ℕ
help_text (no_request.Help text) = string_bytes text
help_text r = []

-- a source without a fault, as it is shown
abbrev pub right_text : List ℕ → List ℕ
right_text path = shown_path path ++ (codes ": no fault" ++ 10 ∷ [])

-- the version, as it is shown
abbrev pub version_text : List ℕ
version_text = codes "vsimtx 0.1.0" ++ 10 ∷ []
