use Rattle.std.proofs.Common.{◌≡◌, arith, inl, inr}
use Rattle.std.proofs.lemmas.Bool.{cases_lt}
use Rattle.explore.specs.Pieces.{pieces}
use Rattle.explore.proofs.Edges.{step_goes_back}
use Rattle.explore.proofs.endless.are_steps_marked.Goals as goal

pub loop-number-init : goal.loop-number-init
loop-number-init g c from to less step none = let is = step.2 in absurd (omega (arith, less, is))

pub loop-number-preserved : goal.loop-number-preserved
loop-number-preserved g c from to less step none = elim (cases_lt to c.loop-number.number) [
  | inl low ↦ c.loop-number.invariant from to low step none
  | inr high ↦
      let same : to ≡ c.loop-number.number = omega (arith, less, high) in
      step_goes_back (pieces c.args.lineage.now.steps) c.args.marks.now c.loop-number.number from to (c.last_step-from.result.0, c.last_step-from.result.1.now) same c.last_step-from.ensures.step
      (c.goes_back.ensures c.if-not-goes_back.false) step none
]
