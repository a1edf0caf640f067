use Rattle.std.proofs.Common.{◌≡◌, ◌++◌, true, drop}
use Rattle.design.specs.Sound.{AreSoundExpressions}
use Rattle.design.specs.DesignTrees.{expressions_of}
use Rattle.design.specs.Generate.{parts_code}
use Rattle.design.proofs.expressions.+emit.Given as goal

-- the steps so far, and those of the parts that are left
abbrev pub invariant-emit_parts-loop-part : goal.invariant-emit_parts-loop-part
invariant-emit_parts-loop-part l =
    (l.ops.items ++ parts_code l.widths l.is_first (expressions_of (drop l.part-index l.parts)) ≡ l.initial.ops.items ++ parts_code l.widths true (expressions_of l.parts))
    × AreSoundExpressions l.widths (expressions_of (drop l.part-index l.parts))
