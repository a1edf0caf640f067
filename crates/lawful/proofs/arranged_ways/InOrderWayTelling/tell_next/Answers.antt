-- The same machine by the same way, with what isn't in order for good.
use Rattle.std.proofs.Common.{[], refl}
use Rattle.wavetexts.specs.Reading.{text_with}
use Rattle.lawful.proofs.ArrangedWays.{copy_reads}
use Rattle.lawful.proofs.arranged_ways.InOrderWayTelling.tell_next.Goals as goal

pub returns : goal.returns
returns c =
    record {
      machine_is = refl;
      moves_are = refl;
      reads = copy_reads c.args.self.now.registers (text_with [] c.args.self.now.tail.now) c.in_ok-text.text c.read.new.self c.in_ok-done.done.items c.deref.result.now c.args.next.printed.items c.in_ok-text.ensures c.deref.ensures.value c.in_ok-done.ensures;
    }
