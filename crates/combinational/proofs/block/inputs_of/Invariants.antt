use Rattle.std.proofs.Common.{◌≡◌, ◌++◌, map, drop}
use Rattle.combinational.specs.Found.{any_change}
use Rattle.combinational.proofs.block.inputs_of.Given as goal

-- the events so far are those of the registers
abbrev pub invariant-loop-trigger : goal.invariant-loop-trigger
invariant-loop-trigger l = map any_change l.inputs.items ++ drop l.trigger-index l.triggers ≡ l.triggers
