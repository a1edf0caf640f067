-- A round with a ticket, and one without.
use Rattle.std.proofs.Common.{◌+◌, arith, refl}
use Rattle.workers.proofs.Onward.{within_self, within_most, within_more, within_taken, within_none}
use Rattle.workers.proofs.Hands.{keeps_nothing, keeps_served, keeps_idle}
use Rattle.workers.proofs.worker.RunContext.step.Goals as goal

pub returns-then-not-may_go-clause-keeps : goal.returns-then-not-may_go-clause-keeps
returns-then-not-may_go-clause-keeps g c on = keeps_nothing _ _

pub returns-then-not-may_go-clause-within : goal.returns-then-not-may_go-clause-within
returns-then-not-may_go-clause-within g c = within_most _ _ 0 0 16 16 (omega arith) (omega arith) (within_self _)

pub returns-then-takes_several-clause-keeps : goal.returns-then-takes_several-clause-keeps
returns-then-takes_several-clause-keeps g c on = keeps_served g.K.Naming.named _ _ _ _ refl c.take.ensures.put c.in-Some.ensures.got (c.serve_several.ensures.keeps on)

pub returns-then-takes_several-clause-within : goal.returns-then-takes_several-clause-within
returns-then-takes_several-clause-within g c =
    within_most _ _ (0 + 16) (1 + 15) 16 16 (omega arith) (omega arith) (within_more _ _ _ 0 1 16 15 (within_taken _ _ _ refl c.take.ensures.put c.in-Some.ensures.got) c.serve_several.ensures.within)

pub returns-else-takes_several-clause-keeps : goal.returns-else-takes_several-clause-keeps
returns-else-takes_several-clause-keeps g c on = keeps_served g.K.Naming.named _ _ _ _ refl c.take.ensures.put c.in-Some.ensures.got (c.count_and_serve.ensures.keeps on)

pub returns-else-takes_several-clause-within : goal.returns-else-takes_several-clause-within
returns-else-takes_several-clause-within g c =
    within_most _ _ (0 + 1) (1 + 0) 16 16 (omega arith) (omega arith) (within_more _ _ _ 0 1 1 0 (within_taken _ _ _ refl c.take.ensures.put c.in-Some.ensures.got) c.count_and_serve.ensures.within)

pub returns-in-None-clause-keeps : goal.returns-in-None-clause-keeps
returns-in-None-clause-keeps g c on = keeps_idle g.K.Naming.named _ _ _ refl c.take.ensures.put c.in-None.ensures.same (c.idle.ensures.keeps on)

pub returns-in-None-clause-within : goal.returns-in-None-clause-within
returns-in-None-clause-within g c =
    within_most _ _ (0 + 16) (0 + 1) 16 16 (omega arith) (omega arith) (within_more _ _ _ 0 0 16 1 (within_none _ _ refl c.take.ensures.put c.in-None.ensures.same) c.idle.ensures.within)
