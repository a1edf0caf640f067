use Rattle.combinational.specs.Found.{AreLogics}
use Rattle.combinational.proofs.network.logics_of.Given as goal
use Rattle.std.proofs.Common.{◌≡◌, length}

-- one for each process so far
abbrev pub invariant-loop-process : goal.invariant-loop-process
invariant-loop-process l =
    record { each : AreLogics l.design l.logics.items; count : length l.logics.items ≡ l.process }
