use Rattle.scopes.specs.declared.scope.Entity.TheVariants as entity
use Rattle.design_scopes.proofs.Declaring.{follows, object_declared}
use Rattle.design_scopes.proofs.scoped.ScopedDesign.declare_constant.Goals as goal

pub returns : goal.returns
returns c =
    object_declared c.declare.result c.args.self.now c.add.new.self c.declare.new.self c.args.scope c.args.label.name.now entity.Object c.args.object _
    (follows c.args.self.now c.add.new.self c.declare.new.self c.add.ensures.frame c.declare.ensures.frame) c.in_ok-number.ensures.number c.in_ok-number.ensures.added c.declare.ensures.declares c.declare.ensures.grows
