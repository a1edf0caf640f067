use Rattle.std.proofs.Common.{◌≡◌, ◌+◌, ap, arith}
use Rattle.model.specs.SourceTrees.{source_expression_of}
use Rattle.shaped_trees.specs.declared.shape.Shape.{Shape}
use Rattle.sizing.proofs.Joining.{made_more}
use Rattle.sizing.proofs.concatenations.JoinedParts.add.Goals as goal

pub returns : goal.returns
returns c = λ n ms m j h.
    let next : c.new-self.result ≡ c.args.self.now.width + c.args.part.shape.width =
    omega (arith, c.new-self.ensures, c.get.ensures.value, c.get-2.ensures.value, ap (λ (s : Shape). s.width) c.shape-shape.ensures) in
    made_more n ms m c.args.part.shape (source_expression_of c.args.part.tree) c.args.self.now.width c.new-self.result c.args.self.now.first
    c.args.self.now.others.items c.push.new.self.items c.in_ok-tree.tree j h (c.in_ok-tree.ensures n m h) next c.in_ok-push.ensures.items
