use Rattle.std.proofs.Common.{subst}
use Rattle.std.specs.Result.{OnOk}
use Rattle.scopes.specs.declared.scope.Entity.TheVariants as entity
use Rattle.scopes.specs.Scopes.{NameText}
use Rattle.design_scopes.specs.Designs.{DeclaresVariable}
use Rattle.design_scopes.proofs.scoped.ScopedDesign.declare_one.Goals as goal

pub returns : goal.returns
returns c =
    subst (λ (name : NameText). OnOk c.declare_variable.result (DeclaresVariable c.args.self.now c.declare_variable.new.self c.args.scope name entity.Object c.args.variable_type.signed c.args.variable_type.range)) c.label_of-label.ensures.name
    c.declare_variable.ensures
