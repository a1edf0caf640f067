use Rattle.std.proofs.Common.{◌≤◌, ℕ, List, get_or, subst}
use Rattle.std.specs.List.{All}
use Rattle.explore.specs.declared.kept.Reached.{Reached}
use Rattle.explore.proofs.search.earliest_open.Goals as goal

pub returns-clause-told : goal.returns-clause-told
returns-clause-told g c = subst (λ (n : ℕ). c.earliest_pending.result ≤ n) c.earliest-first.ensures c.earliest_pending.ensures.told

pub returns-clause-pending : goal.returns-clause-pending
returns-clause-pending g c =
    subst (λ (l : List Reached). All (λ p. c.earliest_pending.result ≤ get_or c.args.kept.now.links.times.items p.number 0) l) c.as_slice.ensures.value c.earliest_pending.ensures.pending
