use Rattle.std.proofs.Common.{◌≡◌, None, ap, ◌∙◌}
use Rattle.std.specs.Prelude.{string_bytes}
use Rattle.model.specs.declared.tree.BinaryOperator.TheVariants.{Subtract}
use Rattle.model.specs.Syntax.{Assign, Binary, Register}
use Rattle.model.specs.SourceTrees.{source_expression_of}
use Rattle.statement_forms.specs.Forms.{one}
use Rattle.statement_forms.proofs.Beside.{made_so}
use Rattle.statement_forms.proofs.loops.less_one.Goals as goal

pub returns : goal.returns
returns c =
    let hidden = c.args.hidden.now in
    let name_is : string_bytes c.in_ok-rest.name ≡ hidden = made_so (λ s. string_bytes s ≡ hidden) c.from_str.result c.in_ok-rest.name c.in_ok-rest.ensures.1 c.from_str.ensures.ok in
    let rest_is : source_expression_of c.in_ok-rest.rest ≡ Binary Subtract (Register hidden) one = ap source_expression_of c.in_ok-rest.ensures.0 ∙ c.in_ok-less.ensures ∙ (λ i. Binary Subtract (c.in_ok-name_of.ensures i) (c.one.ensures i)) in
    c.assign_of.ensures ∙ (λ i. Assign (name_is i) None (rest_is i))
