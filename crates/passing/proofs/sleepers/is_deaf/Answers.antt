-- Each register is tracked, and no move is one for which it waits.
use Rattle.std.proofs.Common.{List, subst}
use Rattle.std.specs.List.{All}
use Rattle.certificates.specs.declared.changes.NotedChange.{NotedChange}
use Rattle.passing.proofs.Deaf.{IsQuietAt, are_deaf}
use Rattle.passing.proofs.sleepers.is_deaf.Goals as goal

pub returns : goal.returns
returns c = λ on.
    are_deaf c.args.moves.now c.args.control.now (c.is_tracked.ensures c.if-not-is_tracked.false)
    (subst (λ (ms : List NotedChange). All (IsQuietAt c.args.control.now) ms) c.deref.ensures.value (c.is_quiet.ensures on))
