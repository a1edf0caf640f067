-- The next ticket of the worker's own deque comes in hand.
use Rattle.std.proofs.Common.{refl, ap, rules}
use Rattle.eventpool.specs.Ends.{Owning}
use Rattle.workers.proofs.Weighing.{got_own, got_one}
use Rattle.workers.proofs.Batching.{fills_taken}
use Rattle.workers.proofs.Hands.{keeps_self, keeps_extended}
use Rattle.workers.proofs.worker.RunContext.extend.Goals as goal

pub returns-in-Some-clause-fills : goal.returns-in-Some-clause-fills
returns-in-Some-clause-fills g c =
    let taken = c.in-Some.ensures.taken in
    fills_taken c.args.worker.now (record c.args.worker.now { owner = c.take.new.self }) c.begin.new.worker _ _ _ _ refl (search rules) (got_one c.args.worker.now.owner c.take.new.self c.args.worker.now.row.items _ (ap (λ (o : Owning _). o.taken) taken)) refl (ap (λ (o : Owning _). o.put) taken) (got_own c.args.worker.now.owner c.take.new.self _ _ (ap (λ (o : Owning _). o.taken) taken)) c.begin.ensures.fills

pub returns-in-Some-clause-keeps : goal.returns-in-Some-clause-keeps
returns-in-Some-clause-keeps g c =
    let taken = c.in-Some.ensures.taken in
    keeps_extended g.K.Naming.named _ _ _ _ _ _ _ refl (ap (λ (o : Owning _). o.put) taken) (got_own c.args.worker.now.owner c.take.new.self _ _ (ap (λ (o : Owning _). o.taken) taken)) c.begin.ensures.keeps

pub returns-in-None-clause-keeps : goal.returns-in-None-clause-keeps
returns-in-None-clause-keeps g c = keeps_self g.K.Naming.named _ _ _ refl c.in-None.ensures.none.0 refl
