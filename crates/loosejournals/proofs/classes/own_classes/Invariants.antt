use Rattle.std.proofs.Common.{◌≡◌, length}
use Rattle.loosejournals.proofs.classes.own_classes.Given as goal

-- as many as there were registers
abbrev pub invariant-loop-register : goal.invariant-loop-register
invariant-loop-register l = length l.classes.items ≡ l.register
