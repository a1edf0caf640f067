-- When two journals aren't compared.
use Rattle.std.specs.Prelude.{List}
use Rattle.model.specs.declared.entry.Entry.{Entry}
use Rattle.design.specs.Compiled.{Compiled}
use Rattle.replay.specs.JournalFaults.{IsFaultOf}
use Rattle.explain.specs.declared.failure.ExplainFault.{ExplainFault}
use Rattle.explain.specs.declared.failure.ExplainFault.TheVariants as telling
use Rattle.differences.specs.declared.fault.JournalSide.{JournalSide}
use Rattle.differences.specs.declared.fault.JournalSide.TheVariants.{First, Second}
use Rattle.differences.specs.declared.fault.CompareFault.{CompareFault}
use Rattle.differences.specs.declared.fault.CompareFault.TheVariants as compared
use Rattle.differences.specs.declared.fault.RunFault.{RunFault}
use Rattle.differences.specs.declared.fault.RunFault.TheVariants as running

-- the journal of a side
abbrev pub journal_of : JournalSide → List Entry → List Entry → List Entry
journal_of First first second = first
journal_of Second first second = second

-- When two journals aren't compared: one of them has this fault, or memory was refused.
abbrev pub IsCompareFaultOf : Compiled → List Entry → List Entry → CompareFault → Type 0
IsCompareFaultOf code first second (compared.Replay side fault) = IsFaultOf code (journal_of side first second) fault
IsCompareFaultOf code first second compared.Memory = Unit {0}

-- When the run of one journal isn't followed to its end: it has this fault, or memory was refused.
abbrev pub IsRunFaultOf : Compiled → List Entry → RunFault → Type 0
IsRunFaultOf code journal (running.Replay fault) = IsFaultOf code journal fault
IsRunFaultOf code journal running.Memory = Unit {0}

-- why an entry isn't told
abbrev pub untold : ExplainFault → RunFault
untold (telling.Read fault) = running.Memory
untold (telling.Replay fault) = running.Replay fault
untold telling.CannotWrite = running.Memory
untold telling.Memory = running.Memory

-- such a fault as one of two journals
abbrev pub compare_fault_of : JournalSide → RunFault → CompareFault
compare_fault_of side (running.Replay fault) = compared.Replay side fault
compare_fault_of side running.Memory = compared.Memory
