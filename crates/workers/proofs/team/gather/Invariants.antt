use Rattle.std.proofs.Common.{◌≡◌, ◌++◌, map}
use Rattle.std.specs.List.{AllByRecursion}
use Rattle.std.specs.Vec.Iter.{into_iter_items}
use Rattle.workers.proofs.team.gather.Given as goal

abbrev pub invariant-loop-seat : goal.invariant-loop-seat
invariant-loop-seat g l =
    (map (λ x. x.seat) l.workers.items ++ into_iter_items l.seat-iterator ≡ l.fn.seats.items)
    × (map (λ x. x.owner) l.workers.items ++ into_iter_items l.ends ≡ l.fn.owners.items)
    × (map (λ x. x.row) l.workers.items ++ into_iter_items l.thieves ≡ l.fn.rows.items)
    × AllByRecursion (λ x. x.evaluations ≡ 0) l.workers.items
