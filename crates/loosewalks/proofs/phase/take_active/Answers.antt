-- All events from the first on.
use Rattle.std.proofs.Common.{refl, rules}
use Rattle.loose.specs.Classes.{class_in}
use Rattle.loosewalks.proofs.Walks.{takes_none}
use Rattle.loosewalks.proofs.phase.take_active.Goals as goal

pub returns-clause-passed : goal.returns-clause-passed
returns-clause-passed c = λ on limits.
    record {
      takes = c.in_ok-all.ensures.on on limits c.args.machine.now refl (takes_none (class_in c.args.classes.now) limits c.args.machine.now _ (search rules));
      over = c.in_ok-all.ensures.over on;
    }
