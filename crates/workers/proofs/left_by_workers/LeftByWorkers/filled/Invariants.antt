use Rattle.std.proofs.Common.{◌≡◌, ◌++◌, map}
use Rattle.std.specs.Vec.Iter.{into_iter_items}
use Rattle.workers.proofs.left_by_workers.LeftByWorkers.filled.Given as goal

abbrev pub invariant-loop-worker : goal.invariant-loop-worker
invariant-loop-worker g l =
    (l.seats.items ++ map (λ w. w.seat) (into_iter_items l.worker-iterator) ≡ map (λ w. w.seat) l.fn.workers.items)
    × (l.owners.items ++ map (λ w. w.owner) (into_iter_items l.worker-iterator) ≡ map (λ w. w.owner) l.fn.workers.items)
    × (l.rows.items ++ map (λ w. w.row) (into_iter_items l.worker-iterator) ≡ map (λ w. w.row) l.fn.workers.items)
    × (l.evaluations.items ++ map (λ w. w.evaluations) (into_iter_items l.worker-iterator) ≡ map (λ w. w.evaluations) l.fn.workers.items)
