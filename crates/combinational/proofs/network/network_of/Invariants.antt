use Rattle.combinational.specs.Found.{AreLogics}
use Rattle.combinational.proofs.network.network_of.Given as goal

-- what is left is logic of the processes
abbrev pub invariant-loop : goal.invariant-loop
invariant-loop l = AreLogics l.design l.network.logics.items
