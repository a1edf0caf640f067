use Rattle.std.proofs.Common.{◌≡◌, [], map, drop, ap, arith}
use Rattle.std.proofs.lemmas.List.{drop_all}
use Rattle.model.specs.SourceTrees.{source_expression_of, source_expressions}
use Rattle.shaped_trees.specs.Trees.{all_nodes}
use Rattle.shaped_trees.proofs.trees.+weight.Goals as goal

pub weights-returns : goal.weights-returns
weights-returns t c =
    let none : drop c.loop-part.part-index c.args.parts.now ≡ [] = drop_all c.loop-part.part-index c.args.parts.now c.loop-part-test.false in
    let left : all_nodes (source_expressions (map source_expression_of (drop c.loop-part.part-index c.args.parts.now))) ≡ 0 =
    ap (λ ys. all_nodes (source_expressions (map source_expression_of ys))) none in
    omega (arith, left, c.loop-part.invariant.sum, c.loop-part.invariant.within)
