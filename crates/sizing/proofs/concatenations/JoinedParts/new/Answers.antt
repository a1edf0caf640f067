use Rattle.std.proofs.Common.{◌∙◌, ap}
use Rattle.shaped_trees.specs.declared.shape.Shape.{Shape}
use Rattle.sizing.proofs.Alone.{one_part}
use Rattle.sizing.proofs.concatenations.JoinedParts.new.Goals as goal

pub returns : goal.returns
returns c = λ n m h.
    one_part n m c.shape-shape.result.width c.in_ok-first.first c.new.result.items (ap (λ (s : Shape). s.width) c.shape-shape.ensures ∙ h.size)
    (c.in_ok-first.ensures n m h) c.new.ensures.items
