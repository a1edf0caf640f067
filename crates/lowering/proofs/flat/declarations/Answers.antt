use Rattle.std.proofs.Common.{◌∙◌, ◌++◌, ap, map, List, arith}
use Rattle.std.specs.List.{flat_map}
use Rattle.std.specs.Prelude.{string_bytes}
use Rattle.std.proofs.lemmas.List.{take_all}
use Rattle.model.specs.SourceTrees.{declaration_of}
use Rattle.statement_parts.specs.Statements.{SourceText}
use Rattle.lowering.specs.declared.hidden.Hidden.{Hidden}
use Rattle.lowering.specs.Flat.{object_declared, hidden_declared, declared_as}
use Rattle.lowering.proofs.Modules.{objects_more, objects_end, variables_more, declaration_pushed}
use Rattle.lowering.proofs.flat.declarations.Goals as goal

pub loop-number-preserved : goal.loop-number-preserved
loop-number-preserved c =
    objects_more c.args.design.now.objects.items c.deref-object-items.result.now c.loop-number.number c.object-item.result (map declaration_of c.loop-number.regs.items) (map declaration_of c.add_object.new.regs.items) c.deref-object-items.ensures.value c.loop-number-test.true c.object-item.is c.loop-number.invariant
    c.in_ok-add_object.ensures

pub loop-variable-init : goal.loop-variable-init
loop-variable-init c = objects_end c.args.design.now.objects.items c.loop-number.number (map declaration_of c.loop-number.regs.items) hidden_declared (omega arith) c.loop-number.invariant

pub loop-variable-preserved : goal.loop-variable-preserved
loop-variable-preserved c =
    let x = c.variable-item.result in
    let old = c.loop-variable.regs.items in
    let new = c.push.new.self.items in
    variables_more hidden_declared (flat_map object_declared c.args.design.now.objects.items) c.args.hidden.now c.loop-variable.variable-index x (map declaration_of old) (map declaration_of new) c.loop-variable-test.true c.variable-item.is c.loop-variable.invariant
    (declaration_pushed old new c.in_ok-made.made (hidden_declared x) c.in_ok-push.ensures.items
    (c.in_ok-made.ensures ∙ ap (λ (text : SourceText). declared_as text c.hidden_range-range.result) c.as_str.ensures.value ∙ ap (declared_as (string_bytes x.name)) c.hidden_range-range.ensures))

pub returns : goal.returns
returns c =
    c.loop-variable.invariant ∙ ap (λ (hs : List Hidden). flat_map object_declared c.args.design.now.objects.items ++ map hidden_declared hs) (take_all c.loop-variable.variable-index c.args.hidden.now (omega arith))
