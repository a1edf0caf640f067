use denote.Param.{param}
use denote.Param.Send.{IsSend, IsSync, param_send, sendable}
use Rattle.std.proofs.Common.{rules}
use Rattle.std.proofs.Crossing.{crosses}
use Rattle.std.specs.Vec.Iter.{into_iter_items}
use Rattle.design.specs.contracts.design.Design as Design
use Rattle.commitgate.proofs.Crossing.{gate_sync}
use Rattle.workers.proofs.Crossing.{worker_send}
use Rattle.workers.proofs.Joining.{joined_none, joined_more, joined_all, no_items, started_all}
use Rattle.workers.proofs.team.fn.work_all.scope.Lts.{arg-16-2}
use Rattle.workers.proofs.team.fn.work_all.scope.Goals as goal

pub spawn_with-requires-send-F : goal.spawn_with-requires-send-F
spawn_with-requires-send-F g c κs within = param_send 2 _ (given c.requires.design c.requires.runtime c.requires.probe c.requires.name)
  where
    given : IsSync Design.the_row → IsSync (param 2 g.row.R) → IsSync (param 1 g.row.P) → IsSend (param 0 g.row.K)
        → IsSend (arg-16-2 g.row.K g.row.P g.row.R g.K.laws g.P.laws g.R.laws g.K.Naming g.K.Naming-dict g.P.Probe g.P.Probe-dict g.R.Threads g.R.Threads-dict g.R.Wait g.R.Wait-dict κs)
    given design runtime probe name = search (gate_sync, worker_send, crosses, sendable) depth 40 fits 5000

pub loop-handle-init : goal.loop-handle-init
loop-handle-init g c = joined_none _ _ (λ h. h.promise.0.value) g.K.Naming.named

pub loop-handle-preserved : goal.loop-handle-preserved
loop-handle-preserved g c =
    joined_more _ _ _ _ _ _ (λ h. h.promise.0.value) g.K.Naming.named c.in-Some-handle.handle c.join.result c.loop-handle.invariant c.in-Some-handle.ensures.steps.0 c.join.ensures c.in_ok-push-2.ensures.items

pub returns : goal.returns
returns g c =
    joined_all _ _ _ _ _ (λ h. h.promise.0.value) g.K.Naming.named c.captures.own c.work.result c.loop-handle.invariant (no_items c.loop-handle.handle-iterator c.in-None-handle.ensures.steps.0)
    (started_all (into_iter_items c.into_iter-handle-iterator.result) c.loop-worker.handles.items c.in_ok-handles.handles.items (into_iter_items c.loop-worker.worker-iterator) (into_iter_items c.into_iter-worker-iterator.result) c.captures.others.items (λ h. h.promise.0.value) c.loop-worker.invariant (no_items c.loop-worker.worker-iterator c.in-None.ensures.steps.0) (search rules) (search rules) (search rules))
    (search rules) c.work.ensures
