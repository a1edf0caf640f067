-- However the lines that are left stand, so do all.
use Rattle.std.proofs.Common.{ℕ, ◌-◌, List, take}
use Rattle.wavetexts.specs.AtTimes.{lines_of}
use Rattle.wavetexts.specs.Partings.{IsStandingBefore, TextStandsBehind}
use Rattle.wavetexts.proofs.parting.standing_before.Given as goal

abbrev pub invariant-loop-before : goal.invariant-loop-before
invariant-loop-before l =
    (left : ℕ) (time : List ℕ) → TextStandsBehind l.fn.registers left time l.standing.left l.standing.time.now (take (l.before - 1) (lines_of l.rest)) → IsStandingBefore l.fn.registers l.fn.text l.fn.number left time

abbrev pub decreases-loop-before : goal.decreases-loop-before
decreases-loop-before l = l.before
