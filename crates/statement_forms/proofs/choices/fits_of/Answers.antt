use Rattle.std.proofs.Common.{◌≡◌}
use Rattle.model.specs.declared.tree.BinaryOperator.TheVariants.{CaseEqual}
use Rattle.model.specs.Syntax.{Register, Binary}
use Rattle.model.specs.SourceTrees.{source_expression_of}
use Rattle.statement_forms.proofs.Beside.{made_so, same_so}
use Rattle.statement_forms.proofs.choices.fits_of.Goals as goal

pub returns : goal.returns
returns c =
    let hidden = c.args.hidden.now in
    let name_is : source_expression_of c.in_ok-label.name ≡ Register hidden = made_so (λ made. source_expression_of made ≡ Register hidden) c.name_of.result c.in_ok-label.name c.in_ok-label.ensures.1 c.name_of.ensures in
    same_so source_expression_of c.binary_of.result (Binary CaseEqual (source_expression_of c.in_ok-label.name) (source_expression_of c.in_ok-label.label)) (Binary CaseEqual (Register hidden) (source_expression_of c.args.label))
    (λ i. Binary CaseEqual (name_is i) (source_expression_of (c.in_ok-label.ensures.0 i))) c.binary_of.ensures
