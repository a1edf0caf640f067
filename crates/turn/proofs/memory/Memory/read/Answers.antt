use Rattle.std.proofs.Common.{sym, subst}
use Rattle.turn.specs.Reads.{GaveAll}
use Rattle.turn.proofs.Known.{gave_more}
use Rattle.turn.proofs.memory.Memory.read.Goals as goal

pub returns-clause-reads : goal.returns-clause-reads
returns-clause-reads g c = record {
  gave = λ h.
      subst (GaveAll (g.R.RegReader.gave c.read-seen.new.self)) (sym c.in_ok-record.ensures.reads)
      (gave_more (g.R.RegReader.gave c.args.reader.now) (g.R.RegReader.gave c.read-seen.new.self) c.args.self.now.reads.entries c.args.register c.read-seen.result c.read-seen.ensures.keeps c.read-seen.ensures.adds h);
  keeps = c.read-seen.ensures.keeps;
  lasting = c.read-seen.ensures.lasting;
}
