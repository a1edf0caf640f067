-- The line on standard error of each fault and of each stop.
use Rattle.std.specs.Prelude.{ℕ, List, [], codes, decimal, string_bytes}
use Rattle.telling.specs.FaultLines.{program_line, shown_path}
use Rattle.files.specs.declared.fault.FileFault.{FileFault}
use Rattle.files.specs.declared.fault.FileFault.TheVariants as file
use Rattle.vparse.specs.declared.parser.ParseFault.{ParseFault}
use Rattle.vparse.specs.declared.parser.ParseFault.TheVariants as parsing
use Rattle.elaborate.specs.declared.fault.ElabFault.{ElabFault}
use Rattle.elaborate.specs.declared.fault.ElabFault.TheVariants as elaboration
use Rattle.frontend.specs.declared.source.SourceFault.{SourceFault}
use Rattle.frontend.specs.declared.source.SourceFault.TheVariants as source
use Rattle.workers.specs.declared.fault.SimFault.{SimFault}
use Rattle.workers.specs.declared.fault.SimFault.TheVariants as simulation
use Rattle.journal.specs.declared.fault.ReadFault.{ReadFault}
use Rattle.journal.specs.declared.fault.ReadFault.TheVariants as reading
use Rattle.explain.specs.ExplainedEnd.{code_text}
use Rattle.replay.specs.declared.fault.BytesFault.{BytesFault}
use Rattle.replay.specs.declared.fault.BytesFault.TheVariants as replaying
use Rattle.differences.specs.declared.fault.JournalSide.{JournalSide}
use Rattle.differences.specs.declared.fault.JournalSide.TheVariants as sides
use Rattle.program.specs.declared.fault.JournalFault.{JournalFault}
use Rattle.program.specs.declared.fault.JournalFault.TheVariants as journals
use Rattle.program.specs.declared.fault.CommandFault.{CommandFault}
use Rattle.program.specs.declared.fault.CommandFault.TheVariants as fault
use Rattle.program.specs.declared.register_option.RegisterOption.{RegisterOption}
use Rattle.program.specs.declared.register_option.RegisterOption.TheVariants as options
use Rattle.program.specs.declared.fault.Stop.{Stop}
use Rattle.program.specs.declared.fault.Stop.TheVariants as stop

-- words of the command line that can't be read
abbrev pub unread_line : List ℕ
unread_line = program_line (codes "a word of the command line isn't UTF-8") [] []

-- a text that is no module: bytes are counted from 0 and tokens from 1
abbrev pub parse_line : ParseFault → List ℕ
parse_line (parsing.Byte place) = program_line (codes "P1 byte not allowed at ") (decimal place) []
parse_line (parsing.Syntax token) = program_line (codes "P2 syntax at token ") (decimal token) []
parse_line (parsing.Literal place) = program_line (codes "P3 literal at ") (decimal place) []
parse_line (parsing.Deep token) = program_line (codes "P4 nesting at token ") (decimal token) []
parse_line (parsing.Unsized token) = program_line (codes "P5 unsized number at token ") (decimal token) []
parse_line parsing.Memory = program_line (codes "P6 memory") [] []

-- a module with a fault
abbrev pub module_line : ElabFault → List ℕ
module_line (elaboration.Undeclared name) = program_line (codes "E1 undeclared ") (string_bytes name) []
module_line (elaboration.DeclaredTwice name) = program_line (codes "E2 declared twice ") (string_bytes name) []
module_line (elaboration.BadRange name) = program_line (codes "E3 range of ") (string_bytes name) []
module_line elaboration.TooManyRegisters = program_line (codes "E4 more than 1024 registers") [] []
module_line elaboration.TooManyProcesses = program_line (codes "E5 more than 256 processes") [] []
module_line elaboration.BadFormat = program_line (codes "E6 format and arguments") [] []
module_line elaboration.WideConcat = program_line (codes "E7 concatenation over 128 bits") [] []
module_line (elaboration.BadIndex name) = program_line (codes "E8 bit index of ") (string_bytes name) []
module_line elaboration.LongDelay = program_line (codes "E9 delay over 4294967295") [] []
module_line elaboration.Memory = program_line (codes "E10 memory") [] []

-- the line of a fault of a source
abbrev pub source_line : SourceFault → List ℕ
source_line (source.Parse f) = parse_line f
source_line (source.Elaborate f) = module_line f

-- no memory for the workers, or no worker
abbrev pub simulate_line : SimFault → List ℕ
simulate_line simulation.Memory = program_line (codes "memory") [] []
simulate_line simulation.NoWorker = program_line (codes "cannot start worker") [] []

-- a journal that isn't read, with a text behind it: lines are counted from 1
abbrev pub unread_with : List ℕ → ReadFault → List ℕ
unread_with tail reading.Header = program_line (codes "Q1 journal header") [] tail
unread_with tail (reading.Line number) = program_line (codes "Q2 journal line ") (decimal number) tail
unread_with tail reading.Cut = program_line (codes "Q3 journal ends without newline") [] tail
unread_with tail reading.Read = program_line (codes "Q4 journal read error") [] tail
unread_with tail reading.Memory = program_line (codes "Q5 memory") [] tail
unread_with tail (reading.Count number) = program_line (codes "Q6 journal count at line ") (decimal number) tail
unread_with tail reading.Uncounted = program_line (codes "Q7 journal cut") [] tail

-- the same alone
abbrev pub read_line : ReadFault → List ℕ
read_line f = unread_with [] f

-- which of two journals has a fault, before the number of an entry
abbrev pub entry_head : JournalSide → List ℕ
entry_head sides.First = codes "first journal: entry "
entry_head sides.Second = codes "second journal: entry "

-- and behind a fault of its text
abbrev pub journal_tail : JournalSide → List ℕ
journal_tail sides.First = codes " (first journal)"
journal_tail sides.Second = codes " (second journal)"

-- a fault of one of two journals
abbrev pub journal_line : JournalSide → JournalFault → List ℕ
journal_line side (journals.Read f) = unread_with (journal_tail side) f
journal_line side (journals.Replay f) = program_line (entry_head side) (decimal f.entry) (code_text f.cause)

-- a replay: entries are counted from 1
abbrev pub replay_line : BytesFault → List ℕ
replay_line (replaying.Source f) = source_line f
replay_line (replaying.Read f) = read_line f
replay_line (replaying.Replay f) = program_line (codes "entry ") (decimal f.entry) (code_text f.cause)
replay_line replaying.CannotWrite = program_line (codes "cannot write") [] []

-- a file that isn't read, whose path is shown with its control characters escaped, or a file or output that isn't written
abbrev pub file_line : FileFault → List ℕ
file_line (file.CannotRead path) = program_line (codes "cannot read ") (shown_path path.now) []
file_line file.CannotWrite = program_line (codes "cannot write") [] []
file_line file.Memory = program_line (codes "memory") [] []

-- the option that gives a name, behind that name
abbrev pub option_tail : RegisterOption → List ℕ
option_tail options.Observe = codes "` (--observe)"
option_tail options.Registers = codes "` (--registers)"

-- a name that an option gives and that no register has, between backquotes and with its control characters escaped
abbrev pub no_register_line : RegisterOption → List ℕ → List ℕ
no_register_line option name = program_line (codes "no register `") (shown_path name) (option_tail option)

-- the line of a fault
abbrev pub fault_line : CommandFault → List ℕ
fault_line (fault.Files f) = file_line f
fault_line fault.Memory = program_line (codes "memory") [] []
fault_line (fault.Source f) = source_line f
fault_line (fault.Simulate f) = simulate_line f
fault_line (fault.Replay f) = replay_line f
fault_line (fault.Journal side f) = journal_line side f

-- the line of a stop: processes are counted from 0
abbrev pub stop_line : Stop → List ℕ
stop_line stop.Until = program_line (codes "stopped: until") [] []
stop_line stop.Entries = program_line (codes "stopped: entries") [] []
stop_line (stop.TooLong process) = program_line (codes "stopped: process ") (decimal process) (codes " too long")
stop_line stop.Time = program_line (codes "stopped: time") [] []
stop_line stop.Memory = program_line (codes "stopped: memory") [] []
