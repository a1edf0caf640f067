-- The declarators so far are declared.
use Rattle.std.proofs.Common.{false, None, take}
use Rattle.scopes.specs.declared.scope.Entity.TheVariants as entity
use Rattle.design_scopes.specs.Designs.{declarator_names}
use Rattle.design_scopes.proofs.Declaring.{IsUnderWay}
use Rattle.design_scopes.proofs.scoped.ScopedDesign.declare_events.Given as goal

abbrev pub invariant-loop-declarator : goal.invariant-loop-declarator
invariant-loop-declarator l =
    IsUnderWay l.scope entity.Event false None (declarator_names (take l.declarator-index l.source.declarators.items)) l.initial.self l.self
