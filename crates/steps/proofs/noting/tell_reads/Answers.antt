-- One read more.
use Rattle.turn.specs.Reads.{registers}
use Rattle.steps.specs.Cells.{reading_in}
use Rattle.steps.proofs.Logged.{read_more, declared_at}
use Rattle.steps.proofs.noting.tell_reads.Goals as goal

pub reading-requires : goal.reading-requires
reading-requires c =
    declared_at _ c.args.reads.now.entries c.loop-place.place c.register_at.result c.requires.declared c.register_at.ensures

pub loop-place-preserved : goal.loop-place-preserved
loop-place-preserved c =
    read_more (reading_in c.args.cells.now) (registers c.args.reads.now.entries) c.loop-place.place c.register_at.result c.loop-place.told.items c.push.new.self.items c.reading.result c.register_at.ensures
    c.loop-place.invariant c.reading.ensures c.in_ok-push.ensures.items
