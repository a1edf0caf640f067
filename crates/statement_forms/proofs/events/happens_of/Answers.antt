use Rattle.std.proofs.Common.{◌≡◌, None, ap, ◌∙◌}
use Rattle.std.specs.Prelude.{string_bytes}
use Rattle.model.specs.declared.tree.BinaryOperator.TheVariants.{CaseEqual}
use Rattle.model.specs.Syntax.{Assign, Binary, Register}
use Rattle.model.specs.SourceTrees.{source_expression_of}
use Rattle.statement_forms.specs.Forms.{nought}
use Rattle.statement_forms.proofs.Beside.{made_so}
use Rattle.statement_forms.proofs.events.happens_of.Goals as goal

pub returns : goal.returns
returns c =
    let event = c.args.event.now in
    let name_is : string_bytes c.in_ok-changed.name ≡ event = made_so (λ s. string_bytes s ≡ event) c.from_str.result c.in_ok-changed.name c.in_ok-changed.ensures.1 c.from_str.ensures.ok in
    let changed_is : source_expression_of c.in_ok-changed.changed ≡ Binary CaseEqual (Register event) nought = ap source_expression_of c.in_ok-changed.ensures.0 ∙ c.in_ok-is_nought.ensures ∙ (λ i. Binary CaseEqual (c.in_ok-name_of.ensures i) (c.nought.ensures i)) in
    c.assign_of.ensures ∙ (λ i. Assign (name_is i) None (changed_is i))
