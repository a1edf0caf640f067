use Rattle.std.proofs.Common.{◌∙◌, ap, arith}
use Rattle.shaped_trees.specs.declared.shape.Shape.{Shape}
use Rattle.syntax_tree.specs.Expressions.{plain_expression_of}
use Rattle.design_scopes.specs.Places.{means}
use Rattle.statement_parts.specs.Statements.{plain_items_of}
use Rattle.lowering.specs.Lowering.{case_shape, items_shape}
use Rattle.lowering.proofs.Shapes.{item_more, item_labels_shape, items_shape_end}
use Rattle.lowering.proofs.choices.case_shape.Goals as goal

pub loop-item-init : goal.loop-item-init
loop-item-init c = ap (λ (s : Shape). items_shape (means c.args.place.now) s (plain_items_of c.args.items.now)) c.in_ok-found.ensures

pub loop-item-preserved : goal.loop-item-preserved
loop-item-preserved c =
    let n = means c.args.place.now in
    let x = c.item-item.result in
    item_more n c.loop-item.found c.in_ok-wider.wider c.args.items.now c.loop-item.item-index x c.loop-item-test.true c.item-item.is
    (item_labels_shape n c.loop-item.found c.in_ok-wider.wider x c.as_slice.result.now c.as_slice.ensures.value c.in_ok-wider.ensures)
    ∙ c.loop-item.invariant

pub returns : goal.returns
returns c =
    let n = means c.args.place.now in
    let xs = c.args.items.now in
    items_shape_end n c.loop-item.found (case_shape n (plain_expression_of c.args.selector.now) (plain_items_of xs)) xs c.loop-item.item-index (omega arith) c.loop-item.invariant
