use Rattle.std.proofs.Common.{Bool, sym, ap, subst, ◌∙◌}
use Rattle.scopes.specs.Scopes.{NameText}
use Rattle.design_scopes.specs.Designs.{full_name_at}
use Rattle.hierarchy.specs.Given.{IsGivenParameter, value_given}
use Rattle.hierarchy.proofs.elaboration.Elaboration.given_value.Goals as goal

pub returns-clause-given : goal.returns-clause-given
returns-clause-given c =
    let parameters = c.args.self.now.parameters in
    let name = full_name_at c.args.self.now.design c.args.scope c.args.label.name.now in
    subst (λ (b : Bool). IsGivenParameter b (value_given parameters name) c.in_ok-take.field-0) (sym c.if-local.false) (c.in_ok-take.ensures.value ∙ ap (λ (t : NameText). value_given parameters t) c.in_ok-full.ensures)
