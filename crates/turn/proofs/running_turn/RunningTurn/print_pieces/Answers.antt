use Rattle.std.proofs.Common.{◌∙◌}
use Rattle.turn.specs.RunningTurn.{turn_status_of}
use Rattle.turn.proofs.Printed.{prints_more}
use Rattle.turn.proofs.running_turn.RunningTurn.print_pieces.Goals as goal

pub loop-piece-preserved : goal.loop-piece-preserved
loop-piece-preserved g c = record {
  prints = λ t. prints_more c.args.ops.now c.args.pieces.now c.loop-piece.piece-index c.piece-item.result (turn_status_of c.args.self.now) (turn_status_of c.loop-piece.self) (turn_status_of c.print_piece.new.self) t c.loop-piece-test.true c.piece-item.is (c.loop-piece.invariant.prints t) c.in_ok-print_piece.ensures.prints;
  gave = λ h. c.in_ok-print_piece.ensures.reads.gave (c.loop-piece.invariant.gave h);
  keeps = λ r s h. c.in_ok-print_piece.ensures.reads.keeps r s (c.loop-piece.invariant.keeps r s h);
  lasting = c.in_ok-print_piece.ensures.reads.lasting ∙ c.loop-piece.invariant.lasting;
}
