-- One number more.
use Rattle.std.proofs.Common.{◌∙◌, ap}
use Rattle.certificates.proofs.Marks.{marked_more}
use Rattle.certificates.proofs.marked.mark_all.Goals as goal

pub loop-item-preserved : goal.loop-item-preserved
loop-item-preserved g c =
    let items = c.args.items.now in
    let i = c.loop-item.item-index in
    marked_more g.T.Numbered.number_of items i c.item-item.result c.args.marks.now.items c.loop-item.marks.items c.mark.new.marks.items c.number.result c.loop-item-test.true (c.number.ensures ∙ ap g.T.Numbered.number_of c.item-item.is) c.loop-item.invariant c.in_ok-mark.ensures
