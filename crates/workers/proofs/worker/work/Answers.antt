use Rattle.std.proofs.Common.{refl, arith, rules}
use Rattle.workers.proofs.Seats.{told}
use Rattle.workers.proofs.Rounds.{works_self, works_more, works_puts}
use Rattle.workers.proofs.Keeping.{puts_none}
use Rattle.workers.proofs.Onward.{within_self, within_puts, later_puts, later_more}
use Rattle.workers.proofs.Hands.{keeps_more, keeps_nothing, lost_none}
use Rattle.workers.proofs.worker.work.Goals as goal

pub loop-init : goal.loop-init
loop-init g c = record {
  works = works_self _;
  later = (within_self _).later;
  keeps = keeps_nothing _ _;
  room = record { grants = search rules; batch = search rules; empty = search rules };
}

pub loop-preserved : goal.loop-preserved
loop-preserved g c = record {
  works = works_more _ _ _ c.loop.invariant.works c.step.ensures.works;
  later = later_more _ _ _ c.loop.invariant.later c.step.ensures.within.later;
  keeps = keeps_more _ _ _ _ _ _ _ c.loop.invariant.keeps (c.step.ensures.keeps c.in-GoesOn.is);
  room = c.step.ensures.room c.in-GoesOn.is;
}

pub returns-in-Ends : goal.returns-in-Ends
returns-in-Ends g c = record {
  works = works_more _ _ _ c.loop.invariant.works c.step.ensures.works;
  later = later_more _ _ _ c.loop.invariant.later c.step.ensures.within.later;
  kept = lost_none _ _ _ _ 16 16 c.loop.invariant.keeps (omega arith) (omega arith) c.step.ensures.within;
  over = c.step.ensures.over c.in-Ends.is;
}

pub returns-in_default : goal.returns-in_default
returns-in_default g c =
    let over = told g.K.Naming.named _ _ c.stop.ensures in record {
      works = works_puts _ _ over.0 (puts_none c.args.worker.owner c.args.worker.owner refl) refl refl;
      later = later_puts _ _ over.0 (puts_none c.args.worker.owner c.args.worker.owner refl) refl;
      kept = lost_none g.K.Naming.named c.args.worker c.args.worker (record c.args.worker { seat = c.stop.new.seat }) 0 0 (keeps_nothing _ _) (omega arith) (omega arith) (within_puts _ _ 0 0 over.0 (puts_none c.args.worker.owner c.args.worker.owner refl) refl);
      over = over.1;
    }

pub returns-in_default-new : goal.returns-in_default-new
returns-in_default-new g c =
    let over = told g.K.Naming.named _ _ c.stop-in_default-new.ensures in record {
      works = works_puts _ _ over.0 (puts_none c.args.worker.owner c.args.worker.owner refl) refl refl;
      later = later_puts _ _ over.0 (puts_none c.args.worker.owner c.args.worker.owner refl) refl;
      kept = lost_none g.K.Naming.named c.args.worker c.args.worker (record c.args.worker { seat = c.stop-in_default-new.new.seat }) 0 0 (keeps_nothing _ _) (omega arith) (omega arith) (within_puts _ _ 0 0 over.0 (puts_none c.args.worker.owner c.args.worker.owner refl) refl);
      over = over.1;
    }
