-- One class more.
use Rattle.std.proofs.Common.{get_or, refl}
use Rattle.certificates.proofs.Marks.{marked_more}
use Rattle.certificates.proofs.summary.mark_assigned.Goals as goal

pub loop-assigned-preserved : goal.loop-assigned-preserved
loop-assigned-preserved c =
    let assigns = c.args.assigns.now in
    let i = c.loop-assigned.assigned-index in
    marked_more (λ x. x.0) assigns i (0, 0) c.args.marks.now.items c.loop-assigned.marks.items c.mark.new.marks.items (get_or assigns i (0, 0)).0 c.loop-assigned-test.true refl c.loop-assigned.invariant c.in_ok-mark.ensures
