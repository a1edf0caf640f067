use Rattle.std.proofs.Common.{ap, refl}
use Rattle.model.specs.SourceTrees.{source_expression_of}
use Rattle.syntax_tree.specs.Expressions.{plain_expression_of}
use Rattle.shaped_trees.specs.declared.shape.Shape.{Shape}
use Rattle.sizing.specs.Meanings.{meaning}
use Rattle.sizing.proofs.Lowered.{lowered_assigned}
use Rattle.sizing.proofs.lowering.lower_assigned.Goals as goal

pub returns : goal.returns
returns g c =
    let n = g.E.Environment.means c.args.environment.now in
    let m = meaning n (plain_expression_of c.args.e.now) in
    let found = c.in_ok-found.found in
    lowered_assigned n m found.shape (record { width = c.args.width; signed = c.shape-signed.result.signed }) c.args.width (source_expression_of found.tree)
    (source_expression_of c.in_ok-lower.field-0) c.in_ok-found.ensures refl (ap (λ (s : Shape). s.signed) c.shape-signed.ensures) (c.in_ok-lower.ensures n m c.in_ok-found.ensures)
