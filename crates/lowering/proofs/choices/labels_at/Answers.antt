use Rattle.std.proofs.Common.{arith}
use Rattle.design_scopes.specs.Places.{means}
use Rattle.statement_forms.specs.Views.{core_expressions}
use Rattle.lowering.proofs.Shapes.{labels_start, labels_more, labels_end}
use Rattle.lowering.proofs.choices.labels_at.Goals as goal

pub loop-label-init : goal.loop-label-init
loop-label-init c = labels_start (means c.args.place.now) c.args.shape.now c.new-made.result.items c.new-made.ensures.items

pub loop-label-preserved : goal.loop-label-preserved
loop-label-preserved c =
    labels_more (means c.args.place.now) c.args.shape.now c.args.labels.now c.loop-label.label-index c.label-item.result c.loop-label.made.items c.push.new.self.items c.in_ok-tree.tree c.loop-label-test.true c.label-item.is c.requires c.loop-label.invariant
    c.in_ok-tree.ensures c.in_ok-push.ensures.items

pub returns : goal.returns
returns c = labels_end (means c.args.place.now) c.args.shape.now c.args.labels.now c.loop-label.label-index (core_expressions c.loop-label.made) (omega arith) c.loop-label.invariant
