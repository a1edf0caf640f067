use Rattle.std.proofs.Common.{◌≡◌, ◌++◌, map, take}
use Rattle.statekeys.specs.KeyParts.{due_process}
use Rattle.statekeys.proofs.keys.push_due.Given as goal

abbrev pub invariant-loop-due : goal.invariant-loop-due
invariant-loop-due l = l.processes.items ≡ l.initial.processes.items ++ map due_process (take l.due-index l.future)
