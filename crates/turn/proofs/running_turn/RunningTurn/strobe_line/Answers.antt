use Rattle.std.proofs.Common.{rules, refl}
use Rattle.turn.proofs.running_turn.RunningTurn.strobe_line.Goals as goal

pub returns-in_ok-push-clause-reads : goal.returns-in_ok-push-clause-reads
returns-in_ok-push-clause-reads g c =
    let printed = c.in_ok-print_pieces.ensures.reads in
    record { gave = printed.gave; keeps = printed.keeps; lasting = printed.lasting }

pub returns-in_err-push-clause-reads : goal.returns-in_err-push-clause-reads
returns-in_err-push-clause-reads g c =
    let printed = c.in_ok-print_pieces.ensures.reads in
    record { gave = search rules; keeps = printed.keeps; lasting = printed.lasting }

pub returns-3-clause-reads : goal.returns-3-clause-reads
returns-3-clause-reads g c = record { gave = λ h. h; keeps = λ r s h. h; lasting = refl }
