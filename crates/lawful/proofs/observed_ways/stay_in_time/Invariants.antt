-- No time passes at the transitions so far.
use Rattle.std.proofs.Common.{take}
use Rattle.std.specs.List.{All}
use Rattle.looseruns.specs.ObservedMoves.{StaysInTime}
use Rattle.lawful.proofs.observed_ways.stay_in_time.Given as goal

abbrev pub invariant-loop-transition : goal.invariant-loop-transition
invariant-loop-transition l = All StaysInTime (take l.transition-index l.moves)
