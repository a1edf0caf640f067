use Rattle.std.proofs.Common.{◌<◌, List, length, get_or, false, None, ap, subst, ◌∙◌, arith}
use Rattle.scopes.specs.declared.scope.Entity.TheVariants as entity
use Rattle.scopes.specs.Scopes.{NameText}
use Rattle.syntax_tree.specs.declared.declarations.Declarator.{Declarator}
use Rattle.design_scopes.specs.Designs.{DeclaresVariable}
use Rattle.design_scopes.proofs.Declaring.{each_more, each_done}
use Rattle.design_scopes.proofs.scoped.ScopedDesign.declare_events.Goals as goal

pub loop-declarator-preserved : goal.loop-declarator-preserved
loop-declarator-preserved c =
    let declarators = c.args.source.now.declarators.items in
    let i = c.loop-declarator.declarator-index in
    let declarator = c.declarator-item.result in
    let within : i < length declarators = omega (arith, c.loop-declarator-test.true, ap length c.deref-declarator-items.ensures.value) in
    each_more c.args.scope entity.Event false None declarators i declarator c.args.self.now c.loop-declarator.self c.declare_event.new.self within
    (c.declarator-item.is ∙ ap (λ (ds : List Declarator). get_or ds i declarator) c.deref-declarator-items.ensures.value) c.loop-declarator.invariant
    (subst (λ (name : NameText). DeclaresVariable c.loop-declarator.self c.declare_event.new.self c.args.scope name entity.Event false None) c.label_of.ensures.name c.in_ok-declare_event.ensures)

pub returns : goal.returns
returns c =
    each_done c.args.scope entity.Event false None c.args.source.now.declarators.items c.loop-declarator.declarator-index c.args.self.now c.loop-declarator.self (omega (arith, c.loop-declarator-test.false, ap length c.deref-declarator-items.ensures.value))
    c.loop-declarator.invariant
