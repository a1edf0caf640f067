-- Only the number of names changes.
use Rattle.std.proofs.Common.{◌≡◌}
use Rattle.call_scopes.proofs.copied.CallScopes.fresh.Given as goal

abbrev pub invariant-loop-attempt : goal.invariant-loop-attempt
invariant-loop-attempt l = l.self ≡ record l.fn.self { names = l.self.names }
