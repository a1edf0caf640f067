-- Whether a call stands among those that are left.
use Rattle.std.proofs.Common.{arith, sym, ◌∙◌}
use Rattle.routine_texts.proofs.CallsLeft.{not_here, call_here, none_here}
use Rattle.routine_texts.proofs.calls.+first.Goals as goal

pub first_of-loop-e-preserved : goal.first_of-loop-e-preserved
first_of-loop-e-preserved t c =
    not_here c.args.all.now c.loop-e.e-index c.e-item.result c.is_some.result _ (omega arith) c.e-item.is (c.is_some.ensures ∙ c.first_call-found.ensures) c.if-is_some.false c.loop-e.invariant

pub first_of-returns-then-is_some : goal.first_of-returns-then-is_some
first_of-returns-then-is_some t c =
    sym c.is_some.ensures ∙ call_here c.args.all.now c.loop-e.e-index c.e-item.result c.is_some.result _ (omega arith) c.e-item.is (c.is_some.ensures ∙ c.first_call-found.ensures) c.if-is_some.true c.loop-e.invariant

pub first_of-returns : goal.first_of-returns
first_of-returns t c = none_here c.args.all.now c.loop-e.e-index _ (omega arith) c.loop-e.invariant
