use Rattle.std.proofs.Common.{◌≡◌, ◌++◌, map}
use Rattle.std.specs.Vec.Iter.{into_iter_items}
use Rattle.workers.proofs.Joining.{Joined}
use Rattle.workers.proofs.team.fn.work_all.scope.Given as goal

abbrev pub invariant-loop-worker : goal.invariant-loop-worker
invariant-loop-worker g l = map (λ h. h.promise.0.value) l.handles.items ++ into_iter_items l.worker-iterator ≡ map (λ h. h.promise.0.value) l.initial.handles.items ++ into_iter_items l.initial.worker-iterator

abbrev pub invariant-loop-handle : goal.invariant-loop-handle
invariant-loop-handle g l = Joined (into_iter_items l.initial.handle-iterator) (into_iter_items l.handle-iterator) l.initial.left.items l.left.items (λ h. h.promise.0.value) g.K.Naming.named
