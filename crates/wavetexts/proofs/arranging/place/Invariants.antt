-- What is put together, and the line among what is left, make the whole.
use Rattle.std.proofs.Common.{◌≡◌, ◌++◌, length}
use Rattle.wavetexts.specs.AtTimes.{placed_line}
use Rattle.wavetexts.proofs.arranging.place.Given as goal

abbrev pub invariant-loop-first : goal.invariant-loop-first
invariant-loop-first l = placed_line l.fn.line l.fn.text ≡ l.all.items ++ placed_line l.fn.line l.rest

abbrev pub decreases-loop-first : goal.decreases-loop-first
decreases-loop-first l = length l.rest
