-- The declarators so far are declared.
use Rattle.std.proofs.Common.{take}
use Rattle.scopes.specs.declared.scope.Entity.TheVariants as entity
use Rattle.design_scopes.specs.Designs.{declarator_names}
use Rattle.design_scopes.proofs.Declaring.{IsUnderWay}
use Rattle.design_scopes.proofs.scoped.ScopedDesign.declare_each.Given as goal

abbrev pub invariant-loop-declarator : goal.invariant-loop-declarator
invariant-loop-declarator l =
    IsUnderWay l.scope entity.Object l.variable_type.signed l.variable_type.range (declarator_names (take l.declarator-index l.declarators)) l.initial.self l.self
