-- The registers that were read first are noted.
use Rattle.std.proofs.Common.{◌≡◌, ◌++◌, take}
use Rattle.turn.specs.Reads.{registers}
use Rattle.noted.proofs.turns.note_uses.Given as goal

abbrev pub invariant-loop-place : goal.invariant-loop-place
invariant-loop-place l = l.uses ≡ l.fn.uses ++ take l.place (registers l.reads.entries)
