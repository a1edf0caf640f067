use Rattle.std.proofs.Common.{◌≡◌, take, length}
use Rattle.std.specs.List.{All}
use Rattle.design.specs.ExpressionSteps.{IsOpOf}
use Rattle.turn.specs.Evaluate.{RunsSteps, vectors}
use Rattle.turn.specs.Reads.{GaveAll, KeepsGiven}
use Rattle.turn.proofs.evaluate.go_on.Given as goal

abbrev pub invariant-loop-op : goal.invariant-loop-op
invariant-loop-op g l = record {
  ran : All (IsOpOf (length l.fn.memory.known)) l.ops → RunsSteps (take l.op-index l.ops) l.fn.memory.known l.fn.memory.reads.entries (vectors l.fn.stack) l.memory.known l.memory.reads.entries (vectors l.stack);
  gave : GaveAll (g.R.RegReader.gave l.fn.reader) l.fn.memory.reads.entries → GaveAll (g.R.RegReader.gave l.reader) l.memory.reads.entries;
  keeps : KeepsGiven (g.R.RegReader.gave l.fn.reader) (g.R.RegReader.gave l.reader);
  lasting : g.R.RegReader.lasting l.reader ≡ g.R.RegReader.lasting l.fn.reader;
}
