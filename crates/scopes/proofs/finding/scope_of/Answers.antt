use Rattle.std.proofs.Common.{◌∙◌}
use Rattle.scopes.proofs.Lookups.{several_is}
use Rattle.scopes.proofs.finding.scope_of.Goals as goal

pub returns-in-Scopes : goal.returns-in-Scopes
returns-in-Scopes c =
    c.element.ensures ∙ several_is c.args.tree.now.scopes.items c.args.found c.args.index c.in_ok-number.field-0 c.in-Scopes.first c.in-Scopes.count c.in_ok-number.was c.in-Scopes.is
