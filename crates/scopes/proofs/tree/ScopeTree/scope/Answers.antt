use Rattle.std.proofs.Common.{ap, slice_get, ◌∙◌}
use Rattle.scopes.proofs.Adding.{got_is}
use Rattle.scopes.proofs.tree.ScopeTree.scope.Goals as goal

pub returns : goal.returns
returns c =
    got_is c.deref.result.now c.args.number c.get.result c.get.ensures.lookup.3 c.get.ensures.lookup.1
    ∙ ap (λ xs. slice_get xs c.args.number) c.deref.ensures.value
