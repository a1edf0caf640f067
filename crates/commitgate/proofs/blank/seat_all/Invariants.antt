use Rattle.std.proofs.Common.{◌≡◌, ◌-◌, [], map, replicate}
use Rattle.std.specs.List.{range_with_len}
use Rattle.crossbeam_utils.specs.Seq.{cell_view}
use Rattle.commitgate.specs.Blanks.{first_fresh}
use Rattle.runstate.specs.Marked.{keeper}
use Rattle.commitgate.specs.Seats.{new_seat}
use Rattle.commitgate.proofs.blank.seat_all.Given as goal

abbrev pub invariant-loop-worker : goal.invariant-loop-worker
invariant-loop-worker g l = record {
  table : l.whole.table_id ≡ g.K.Naming.named.mark;
  keeps : cell_view l.whole ≡ keeper l.worker [];
  left : l.regs.items ≡ replicate (g.K.Naming.named.workers - l.worker) (first_fresh g.K.Naming.named);
  made : l.seats.items ≡ map (new_seat g.K.Naming.named.code) (range_with_len 0 l.worker);
}
