use Rattle.std.proofs.Common.{refl, false}
use Rattle.model.specs.SourceTrees.{source_expression_of}
use Rattle.sizing.proofs.Selections.{made_bit}
use Rattle.sizing.proofs.selects.bit.Goals as goal

pub returns : goal.returns
returns c = λ n base i is named_by e.
    made_bit n c.args.object.now base i c.in_ok-selected.selected.range c.args.index (record { width = c.new.result; signed = false })
    (source_expression_of c.in_ok-tree.tree) named_by c.in_ok-selected.ensures.range e c.new.ensures refl c.in_ok-tree.ensures
