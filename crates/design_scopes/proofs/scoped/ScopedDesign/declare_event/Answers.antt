use Rattle.std.proofs.Common.{false, None}
use Rattle.scopes.specs.declared.scope.Entity.TheVariants as entity
use Rattle.design_scopes.proofs.Declaring.{follows, variable_declared}
use Rattle.design_scopes.proofs.scoped.ScopedDesign.declare_event.Goals as goal

pub returns : goal.returns
returns c =
    variable_declared c.declare.result c.args.self.now c.add_variable.new.self c.declare.new.self c.args.scope c.args.label.name.now entity.Event false None _
    (follows c.args.self.now c.add_variable.new.self c.declare.new.self c.add_variable.ensures.frame c.declare.ensures.frame) c.in_ok-number.ensures.number c.in_ok-number.ensures.added c.declare.ensures.declares c.declare.ensures.grows
