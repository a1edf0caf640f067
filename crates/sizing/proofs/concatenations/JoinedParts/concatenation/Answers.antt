use Rattle.std.proofs.Common.{refl, false}
use Rattle.model.specs.SourceTrees.{source_expression_of}
use Rattle.sizing.specs.Parts.{part_trees}
use Rattle.sizing.proofs.Joining.{made_concatenation}
use Rattle.sizing.proofs.concatenations.JoinedParts.concatenation.Goals as goal

pub returns : goal.returns
returns c = λ n ms j.
    made_concatenation n ms c.args.self.width (record { width = c.args.self.width; signed = false }) (part_trees c.args.self)
    (source_expression_of c.in_ok-tree.field-0) j refl refl c.in_ok-tree.ensures
