use Rattle.std.proofs.Common.{arith}
use Rattle.scopes.specs.declared.scope.Entity.TheVariants as entity
use Rattle.design_scopes.proofs.Declaring.{each_more, each_done}
use Rattle.design_scopes.proofs.scoped.ScopedDesign.declare_each.Goals as goal

pub loop-declarator-init : goal.loop-declarator-init
loop-declarator-init c = λ names new rest. rest

pub loop-declarator-preserved : goal.loop-declarator-preserved
loop-declarator-preserved c =
    each_more c.args.scope entity.Object c.args.variable_type.signed c.args.variable_type.range c.args.declarators.now c.loop-declarator.declarator-index c.declarator-item.result c.args.self.now c.loop-declarator.self c.declare_one.new.self (omega arith) c.declarator-item.is
    c.loop-declarator.invariant c.in_ok-declare_one.ensures

pub returns : goal.returns
returns c =
    each_done c.args.scope entity.Object c.args.variable_type.signed c.args.variable_type.range c.args.declarators.now c.loop-declarator.declarator-index c.args.self.now c.loop-declarator.self (omega arith) c.loop-declarator.invariant
