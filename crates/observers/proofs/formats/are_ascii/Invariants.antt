-- With the pieces that are left, all are of ASCII.
use Rattle.observers.proofs.AsciiFormats.{AreAsciiPieces, IsAllWithRest}
use Rattle.observers.proofs.formats.are_ascii.Given as goal

abbrev pub invariant-loop-piece : goal.invariant-loop-piece
invariant-loop-piece l = IsAllWithRest AreAsciiPieces l.format l.piece-index
