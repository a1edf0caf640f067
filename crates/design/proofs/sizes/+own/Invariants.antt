use Rattle.std.proofs.Common.{◌≡◌, ◌≤◌, ◌+◌, drop}
use Rattle.model.specs.Expressions as size
use Rattle.design.specs.Sound.{AreSoundExpressions}
use Rattle.design.specs.DesignTrees.{expressions_of}
use Rattle.design.proofs.sizes.+own.Given as goal

-- what is left adds up to the whole, and each part adds a digit at least
abbrev pub invariant-total_size-loop-part : goal.invariant-total_size-loop-part
invariant-total_size-loop-part l =
    (l.total + size.total_size l.widths (expressions_of (drop l.part-index l.parts)) ≡ size.total_size l.widths (expressions_of l.parts))
    × AreSoundExpressions l.widths (expressions_of (drop l.part-index l.parts))
    × (l.part-index ≤ l.total)
