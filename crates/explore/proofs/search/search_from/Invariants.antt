use Rattle.std.proofs.Common.{◌≡◌, ℕ, ◌<◌, ◌+◌, ◌-◌, ◌*◌, [], length, get_or, None, Some, ◌⊎◌}
use Rattle.std.specs.List.{Any}
use Rattle.explore.specs.SearchKept.{AreContinued, AreKeptWell}
use Rattle.explore.specs.Search.{AreShownWell, IsShown, IsFollowed, Serves}
use Rattle.explore.specs.Lineage.{ways}
use Rattle.explore.specs.declared.stopped.Stopped.TheVariants as stop
use Rattle.explore.proofs.Open.{IsKnownOrOpen}
use Rattle.explore.proofs.search.search_from.Given as goal

abbrev pub invariant-loop-reached : goal.invariant-loop-reached
invariant-loop-reached g l =
    let runs = g.O.Orders.runs l.scope.orders.now in
    let reached = ways l.kept.lineage in
    record {
      well : AreKeptWell runs (g.O.Orders.has_key l.scope.orders.now) (g.O.Orders.time_of l.scope.orders.now) l.scope.bounds.nodes l.kept;
      continued : AreContinued runs l.kept;
      some : 0 < length reached;
      starts : get_or reached 0 [] ≡ [];
      nodes : l.nodes ≡ length reached;
      most : l.stopped ≡ Some stop.Nodes → length reached ≡ l.scope.bounds.nodes;
      apart : l.stopped ≡ Some stop.Shown → ⊥;
      shown : AreShownWell runs l.scope.bounds.shown l.shown.items;
      known : (k : ℕ) → k < length reached → IsKnownOrOpen runs (g.O.Orders.time_of l.scope.orders.now) l.kept l.shown.items l.since k;
      followed : l.stopped ≡ None → (k : ℕ) → k < length reached → Any (λ p. p.number ≡ k) l.kept.pending.items ⊎ IsFollowed runs (IsShown l.shown.items) (Serves runs) reached (get_or reached k []);
    }

abbrev pub decreases-loop-reached : goal.decreases-loop-reached
decreases-loop-reached g l = 2 * (l.scope.bounds.nodes - length (ways l.kept.lineage)) + length l.kept.pending.items
