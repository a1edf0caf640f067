use Rattle.std.proofs.Common.{◌≡◌, ◌+◌, arith}
use Rattle.shaped_trees.proofs.Evaluated.{total_more, total_end}
use Rattle.shaped_trees.proofs.evaluation.+own_size.Goals as goal

pub total_size-loop-part-preserved : goal.total_size-loop-part-preserved
total_size-loop-part-preserved t c = λ s h.
    let next : c.new-size.result ≡ c.loop-part.size + c.in_ok-own.own =
    omega (arith, c.new-size.ensures, c.get-in-loop-part-2.ensures.value, c.get-in-loop-part-3.ensures.value) in
    c.loop-part.invariant s
    (total_more c.args.parts.now c.loop-part.part-index c.part-item.result c.loop-part.size c.in_ok-own.own c.new-size.result c.loop-part-test.true c.part-item.is c.in_ok-own.ensures next s h)

pub total_size-returns : goal.total_size-returns
total_size-returns t c =
    c.loop-part.invariant c.loop-part.size (total_end c.args.parts.now c.loop-part.part-index c.loop-part.size c.loop-part-test.false)
