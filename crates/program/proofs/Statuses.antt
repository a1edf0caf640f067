-- Which statuses faults and stops have.
use Rattle.std.proofs.Common.{◌≡◌, ◌≤◌, ◌==◌, ◌||◌, refl, subst, ℕ, Bool, true, false, Result, Ok, Err, arith}
use Rattle.program.specs.declared.ending.Ending.{Ending}
use Rattle.program.specs.declared.ending.Ending.TheVariants as ending
use Rattle.program.specs.declared.finding.SearchFinding.TheVariants as finding
use Rattle.program.specs.declared.fault.JournalFault.TheVariants as journals
use Rattle.program.specs.declared.fault.CommandFault.{CommandFault}
use Rattle.program.specs.declared.fault.CommandFault.TheVariants as fault
use Rattle.files.specs.declared.fault.FileFault.{FileFault}
use Rattle.files.specs.declared.fault.FileFault.TheVariants as file
use Rattle.files.specs.FileStatuses.{file_status}
use Rattle.program.specs.declared.fault.Stop.{Stop}
use Rattle.program.specs.declared.fault.Stop.TheVariants as stop
use Rattle.frontend.specs.declared.source.SourceFault.{SourceFault}
use Rattle.frontend.specs.declared.source.SourceFault.TheVariants as source
use Rattle.journal.specs.declared.fault.ReadFault.{ReadFault}
use Rattle.journal.specs.declared.fault.ReadFault.TheVariants as reading
use Rattle.replay.specs.declared.fault.BytesFault.{BytesFault}
use Rattle.replay.specs.declared.fault.BytesFault.TheVariants as replaying
use Rattle.replay.specs.declared.fault.Cause.{Cause}
use Rattle.replay.specs.declared.fault.Cause.TheVariants as cause
use Rattle.vparse.specs.declared.parser.ParseFault.TheVariants as parsing
use Rattle.elaborate.specs.declared.fault.ElabFault.TheVariants as elaboration
use Rattle.program.specs.Program.{ended_status, stop_status, status_of, source_status_of, read_status_of, cause_status_of, replay_status_of}

-- 1, 3, 5 and 6
abbrev pub is_fault_status : ℕ → Bool
is_fault_status n = n == 1 || (n == 3 || (n == 5 || n == 6))

-- 4 and 6
abbrev pub is_stop_status : ℕ → Bool
is_stop_status n = n == 4 || n == 6

clash : (b : Bool) → b ≡ true → b ≡ false → ⊥
clash true h e = cc
clash false h e = cc

source_has : (f : SourceFault) → is_fault_status (source_status_of f) ≡ true
source_has (source.Parse parsing.Memory) = refl
source_has (source.Elaborate elaboration.Memory) = refl
source_has f = refl

read_has : (f : ReadFault) → is_fault_status (read_status_of f) ≡ true
read_has reading.Read = refl
read_has reading.Memory = refl
read_has f = refl

cause_has : (c : Cause) → is_fault_status (cause_status_of c) ≡ true
cause_has cause.ApplyMemory = refl
cause_has cause.Memory = refl
cause_has (cause.Start refused) = refl
cause_has c = refl

replay_has : (f : BytesFault) → is_fault_status (replay_status_of f) ≡ true
replay_has (replaying.Source f) = source_has f
replay_has (replaying.Read f) = read_has f
replay_has (replaying.Replay f) = cause_has f.cause
replay_has replaying.CannotWrite = refl

file_has : (f : FileFault) → is_fault_status (file_status f) ≡ true
file_has (file.CannotRead p) = refl
file_has file.CannotWrite = refl
file_has file.Memory = refl

pub fault_has : (f : CommandFault) → is_fault_status (status_of f) ≡ true
fault_has (fault.Files f) = file_has f
fault_has fault.Memory = refl
fault_has (fault.Source f) = source_has f
fault_has (fault.Simulate f) = refl
fault_has (fault.Replay f) = replay_has f
fault_has (fault.Journal side (journals.Read f)) = read_has f
fault_has (fault.Journal side (journals.Replay f)) = cause_has f.cause

stop_has : (s : Stop) → is_stop_status (stop_status s) ≡ true
stop_has stop.Memory = refl
stop_has s = refl

-- a status that no fault has
pub not_of_fault : (f : CommandFault) (n : ℕ) → is_fault_status n ≡ false → status_of f ≡ n → ⊥
not_of_fault f n h e = clash (is_fault_status n) (subst (λ (k : ℕ). is_fault_status k ≡ true) e (fault_has f)) h

-- a status that no stop has
pub not_of_stop : (s : Stop) (n : ℕ) → is_stop_status n ≡ false → stop_status s ≡ n → ⊥
not_of_stop s n h e = clash (is_stop_status n) (subst (λ (k : ℕ). is_stop_status k ≡ true) e (stop_has s)) h

-- the greatest status
source_few : (f : SourceFault) → source_status_of f ≤ 7
source_few (source.Parse parsing.Memory) = omega arith
source_few (source.Elaborate elaboration.Memory) = omega arith
source_few f = omega arith

read_few : (f : ReadFault) → read_status_of f ≤ 7
read_few reading.Read = omega arith
read_few reading.Memory = omega arith
read_few f = omega arith

cause_few : (c : Cause) → cause_status_of c ≤ 7
cause_few cause.ApplyMemory = omega arith
cause_few cause.Memory = omega arith
cause_few (cause.Start refused) = omega arith
cause_few c = omega arith

replay_few : (f : BytesFault) → replay_status_of f ≤ 7
replay_few (replaying.Source f) = source_few f
replay_few (replaying.Read f) = read_few f
replay_few (replaying.Replay f) = cause_few f.cause
replay_few replaying.CannotWrite = omega arith

file_few : (f : FileFault) → file_status f ≤ 7
file_few (file.CannotRead p) = omega arith
file_few file.CannotWrite = omega arith
file_few file.Memory = omega arith

fault_few : (f : CommandFault) → status_of f ≤ 7
fault_few (fault.Files f) = file_few f
fault_few fault.Memory = omega arith
fault_few (fault.Source f) = source_few f
fault_few (fault.Simulate f) = omega arith
fault_few (fault.Replay f) = replay_few f
fault_few (fault.Journal side (journals.Read f)) = read_few f
fault_few (fault.Journal side (journals.Replay f)) = cause_few f.cause

pub at_most_seven : (ended : Result Ending CommandFault) → ended_status ended ≤ 7
at_most_seven (Ok ending.Done) = omega arith
at_most_seven (Ok (ending.Stopped stop.Memory)) = omega arith
at_most_seven (Ok (ending.Stopped s)) = omega arith
at_most_seven (Ok (ending.Found finding.One)) = omega arith
at_most_seven (Ok (ending.Found finding.Unfinished)) = omega arith
at_most_seven (Ok (ending.Found finding.Memory)) = omega arith
at_most_seven (Ok (ending.Found finding.Several)) = omega arith
at_most_seven (Ok (ending.Wrong text)) = omega arith
at_most_seven (Ok (ending.NoRegister name)) = omega arith
at_most_seven (Ok ending.Differ) = omega arith
at_most_seven (Err f) = fault_few f
