use Rattle.std.proofs.Common.{◌≡◌, drop}
use Rattle.turn.specs.Reads.{GaveAll, KeepsGiven}
use Rattle.turn.specs.RunningTurn.{Status, turn_status_of, PrintsPieces}
use Rattle.turn.proofs.running_turn.RunningTurn.print_pieces.Given as goal

abbrev pub invariant-loop-piece : goal.invariant-loop-piece
invariant-loop-piece g l = record {
  prints : (t : Status) → PrintsPieces l.ops (drop l.piece-index l.pieces) (turn_status_of l.self) t → PrintsPieces l.ops l.pieces (turn_status_of l.fn.self) t;
  gave : GaveAll (g.R.RegReader.gave l.fn.reader) l.fn.self.memory.reads.entries → GaveAll (g.R.RegReader.gave l.reader) l.self.memory.reads.entries;
  keeps : KeepsGiven (g.R.RegReader.gave l.fn.reader) (g.R.RegReader.gave l.reader);
  lasting : g.R.RegReader.lasting l.reader ≡ g.R.RegReader.lasting l.fn.reader;
}
