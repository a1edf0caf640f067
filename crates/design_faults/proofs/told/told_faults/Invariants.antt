-- What is still to be told are the faults that are left.
use Rattle.std.proofs.Common.{◌≡◌, ◌++◌, drop}
use Rattle.std.specs.Prelude.{string_bytes}
use Rattle.design_faults.specs.Told.{told_faults}
use Rattle.design_faults.proofs.told.told_faults.Given as goal

abbrev pub invariant-loop-fault : goal.invariant-loop-fault
invariant-loop-fault l =
    string_bytes l.text ++ told_faults l.refusal.files.items l.refusal.lines.items (drop l.fault-index l.faults) ≡ told_faults l.refusal.files.items l.refusal.lines.items l.faults
