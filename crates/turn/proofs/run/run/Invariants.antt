use Rattle.std.proofs.Common.{◌≡◌}
use Rattle.turn.specs.RunningTurn.{turn_status_of}
use Rattle.turn.specs.Reads.{GaveAll, KeepsGiven}
use Rattle.turn.proofs.Turns.{Reached}
use Rattle.turn.proofs.run.run.Given as goal

abbrev pub invariant-loop-count : goal.invariant-loop-count
invariant-loop-count g l = record {
  reached : Reached l.design l.state l.now l.count (turn_status_of l.running);
  gave : GaveAll (g.R.RegReader.gave l.reader) l.running.memory.reads.entries;
  keeps : KeepsGiven (g.R.RegReader.gave l.fn.reader) (g.R.RegReader.gave l.reader);
  lasting : g.R.RegReader.lasting l.reader ≡ g.R.RegReader.lasting l.fn.reader;
}
