-- The transitions so far are in time.
use Rattle.std.proofs.Common.{take}
use Rattle.std.specs.List.{All}
use Rattle.looseruns.specs.LooseMoves.{IsTimelyMove}
use Rattle.lawful.proofs.by_parts.is_within.Given as goal

abbrev pub invariant-loop-transition : goal.invariant-loop-transition
invariant-loop-transition l = All (IsTimelyMove l.fn.limits) (take l.transition-index l.way)
