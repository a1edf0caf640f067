use Rattle.std.proofs.Common.{sym, ap, ◌∙◌}
use Rattle.scopes.specs.Scopes.{head_of_some}
use Rattle.scopes.proofs.tree.ScopeTree.outwards.Goals as goal

pub returns-in-Instance-2-clause-further : goal.returns-in-Instance-2-clause-further
returns-in-Instance-2-clause-further c = λ outer q.
    c.args.self.now.outer_first c.args.scope outer (ap (λ r. (head_of_some r).around) (sym c.in_ok-found.ensures) ∙ q)

pub returns-in-Design-clause-further : goal.returns-in-Design-clause-further
returns-in-Design-clause-further c = λ outer q.
    c.args.self.now.outer_first c.args.scope outer (ap (λ r. (head_of_some r).around) (sym c.in_ok-found.ensures) ∙ q)
