-- What is left of two journals that were compared.
use Rattle.std.proofs.Common.{ℕ, Bool, List, Option, Result, Ok, Err, IfOk}
use Rattle.model.specs.declared.entry.Entry.{Entry}
use Rattle.replay.specs.ReplayBytes.{IsReadJournal}
use Rattle.program.specs.declared.subject.DesignSubject.{DesignSubject}
use Rattle.differences.specs.declared.comparison.Comparison.{Comparison}
use Rattle.differences.specs.Comparisons.{IsComparison}
use Rattle.program.specs.declared.fault.CommandFault.{CommandFault}
use Rattle.program.specs.Printed.{ComparesJournals}

-- two journals that were read and compared
pub compares_if : (r : Result Comparison CommandFault) (subject : DesignSubject) (all : Bool) (ones others : List Entry) (first second : Option (List ℕ))
    → IsReadJournal first ones → IsReadJournal second others → IfOk r (IsComparison subject.processes.items subject.design all ones others) → IfOk r (ComparesJournals subject all first second)
compares_if (Ok told) subject all ones others first second one other is = record {
  one = ones;
  one_read = one;
  other = others;
  other_read = other;
  is_told = is;
}
compares_if (Err fault) subject all ones others first second one other is = tt
