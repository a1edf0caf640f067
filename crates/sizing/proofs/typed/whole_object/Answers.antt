use Rattle.std.proofs.Common.{refl}
use Rattle.model.specs.SourceTrees.{source_expression_of}
use Rattle.sizing.proofs.Selections.{made_object}
use Rattle.sizing.proofs.typed.whole_object.Goals as goal

pub returns-in_ok-tree-in-Some : goal.returns-in_ok-tree-in-Some
returns-in_ok-tree-in-Some c = λ n scope is.
    made_object n scope c.args.object.now (record { width = c.in-Some.width; signed = c.args.object.now.signed }) (source_expression_of c.in_ok-tree-in-Some.tree) is
    c.in-Some.ensures refl c.in_ok-tree-in-Some.ensures
