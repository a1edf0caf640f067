use Rattle.shaped_trees.proofs.Evaluated.{digits_more, digits_end, closed_more}
use Rattle.shaped_trees.proofs.evaluation.+evaluate.Goals as goal

pub join-loop-part-preserved : goal.join-loop-part-preserved
join-loop-part-preserved t c = record {
  digits = λ v d.
      c.loop-part.invariant.digits v
      (digits_more c.args.parts.now c.loop-part.part-index c.part-item.result c.loop-part.digits c.in_ok-low.low c.concat-digits.result c.in_ok-own_size.field-0
      c.loop-part-test.true c.part-item.is c.in_ok-own_size.ensures c.in_ok-low.ensures.value c.concat-digits.ensures.value v d);
  closed = λ d.
      c.loop-part.invariant.closed
      (closed_more c.args.parts.now c.loop-part.part-index c.part-item.result c.loop-part-test.true c.part-item.is c.in_ok-low.ensures.closed d);
}

pub join-returns-clause-value : goal.join-returns-clause-value
join-returns-clause-value t c =
    c.loop-part.invariant.digits c.loop-part.digits (digits_end c.args.parts.now c.loop-part.part-index c.loop-part.digits c.loop-part-test.false)
