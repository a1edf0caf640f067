use Rattle.std.proofs.Common.{refl, ap, subst}
use Rattle.crossbeam_utils.specs.Seq.{cell_view}
use Rattle.runstate.specs.declared.mark.MarkView.{MarkView}
use Rattle.regcells.specs.CellSeats as regs
use Rattle.regcells.specs.Meetings.{fresh_of}
use Rattle.commitgate.specs.Seats.{SeatView, SeatReadsOn}
use Rattle.commitgate.proofs.Meetings.{rises_set}
use Rattle.commitgate.proofs.seat.Seat.read.Goals as goal

pub returns-clause-reads_on : goal.returns-clause-reads_on
returns-clause-reads_on g c =
    subst (λ (v : SeatView). SeatReadsOn v (record {
      worker = c.self.inside.worker;
      seen = (cell_view {V = MarkView} c.self.inside.pass).seen;
      positions = (cell_view {V = MarkView} c.self.inside.pass).positions;
      stored = (cell_view {V = MarkView} c.self.inside.pass).stored;
      fresh = c.read.new.seat.seen;
    })) c.self.view_is (record {
      worker = refl;
      seen = refl;
      positions = refl;
      stored = refl;
      rises = rises_set c.self.inside.regs.seen c.read.new.seat.seen c.args.register (fresh_of c.read.new.seat.seen c.args.register) (ap (λ (f : regs.Fresh). f.seen) c.read.ensures.others) refl c.read.ensures.later;
    })
