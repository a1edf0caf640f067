-- What is declared behind a fresh name is declared in the design as it was.
use Rattle.std.proofs.Common.{ℕ, false, List, subst}
use Rattle.scopes.specs.declared.scope.Entity.TheVariants as entity
use Rattle.design_scopes.specs.Designs.{DeclaresVariable}
use Rattle.call_scopes.proofs.OnlyNames.{variable_after}
use Rattle.call_scopes.proofs.copied.CallScopes.declare_own.Goals as goal

pub returns-in-Ok : goal.returns-in-Ok
returns-in-Ok c =
    let self = c.args.self.now in
    let new = c.declare_variable.new.self in
    subst (λ (name : List ℕ). DeclaresVariable self.design new c.args.at name entity.Object false c.args.range) c.as_slice.ensures.value
    (variable_after self c.fresh.new.self new c.args.at c.as_slice.result.now entity.Object false c.args.range c.in_ok-name.ensures.frame c.in-Ok.ensures)
