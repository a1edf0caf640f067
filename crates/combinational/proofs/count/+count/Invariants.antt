use Rattle.std.proofs.Common.{◌≡◌, ◌+◌, drop}
use Rattle.model.specs.Design.{size}
use Rattle.design.specs.DesignTrees.{statements_of}
use Rattle.combinational.proofs.count.+count.Given as goal

-- the place behind those so far, and so many further as are left
abbrev pub invariant-place_behind-loop-statement : goal.invariant-place_behind-loop-statement
invariant-place_behind-loop-statement l = l.behind + size (statements_of (drop l.statement-index l.statements)) ≡ l.fn.place + size (statements_of l.statements)
