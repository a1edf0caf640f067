use Rattle.model.specs.SourceTrees.{source_expression_of}
use Rattle.sizing.proofs.Follows.{on_ok}
use Rattle.logic4.specs.Operators.{xor_vector}
use Rattle.sizing.specs.Meanings as meaning
use Rattle.sizing.proofs.Trees.{typed_xnor}
use Rattle.sizing.proofs.operators.xnor.Goals as goal

pub returns : goal.returns
returns c =
    on_ok c.complement.result _ _ c.complement.ensures
    (λ t told n m k h g. typed_xnor n m k t.shape (source_expression_of t.tree) (told n (meaning.both_of xor_vector m k) (c.in_ok-differing.ensures n m k h g)))
