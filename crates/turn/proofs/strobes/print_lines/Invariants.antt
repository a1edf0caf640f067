use Rattle.std.proofs.Common.{◌≡◌, take}
use Rattle.turn.specs.RunningTurn.{turn_status_of}
use Rattle.turn.specs.Reads.{GaveAll, KeepsGiven}
use Rattle.turn.proofs.Strobed.{Strobed}
use Rattle.turn.proofs.strobes.print_lines.Given as goal

abbrev pub invariant-loop-place : goal.invariant-loop-place
invariant-loop-place g l = record {
  strobed : Strobed l.design (take l.place-index l.places) (turn_status_of l.running);
  gave : GaveAll (g.R.RegReader.gave l.reader) l.running.memory.reads.entries;
  keeps : KeepsGiven (g.R.RegReader.gave l.fn.reader) (g.R.RegReader.gave l.reader);
  lasting : g.R.RegReader.lasting l.reader ≡ g.R.RegReader.lasting l.fn.reader;
}
