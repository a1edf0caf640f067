use Rattle.std.proofs.Common.{◌∙◌, map, refl, arith}
use Rattle.syntax_tree.specs.Expressions.{plain_expression_of}
use Rattle.design_scopes.specs.Places.{means}
use Rattle.lowering.specs.Lowering.{labels_shape}
use Rattle.lowering.proofs.Shapes.{label_more, shape_end}
use Rattle.lowering.proofs.choices.labels_shape.Goals as goal

pub loop-label-init : goal.loop-label-init
loop-label-init c = refl

pub loop-label-preserved : goal.loop-label-preserved
loop-label-preserved c =
    label_more (means c.args.place.now) c.loop-label.found c.joined-found.result c.in_ok-own.own c.args.labels.now c.loop-label.label-index c.label-item.result c.loop-label-test.true c.label-item.is c.in_ok-own.ensures c.joined-found.ensures.width c.joined-found.ensures.signed
    ∙ c.loop-label.invariant

pub returns : goal.returns
returns c =
    let n = means c.args.place.now in
    let xs = c.args.labels.now in
    shape_end n c.loop-label.found (labels_shape n c.args.shape (map plain_expression_of xs)) xs c.loop-label.label-index (omega arith) c.loop-label.invariant
