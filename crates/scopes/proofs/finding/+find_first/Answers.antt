use Rattle.std.proofs.Common.{sym, ◌∙◌}
use Rattle.scopes.specs.declared.scope.Reach.TheVariants as reach
use Rattle.scopes.specs.Names.{first_here}
use Rattle.scopes.proofs.Lookups.{first_further}
use Rattle.scopes.proofs.finding.+find_first.Goals as goal

pub returns-in-Some-outwards : goal.returns-in-Some-outwards
returns-in-Some-outwards t c =
    first_further c.args.tree.now.scopes.items reach.Design (first_here c.args.tree.now.scopes.items c.args.name.now) c.args.scope c.args.tree.now.outer_first c.in-Some-outwards.outer c.find_first.result (sym c.in_default.is ∙ c.first_here.ensures) c.in-Some-outwards.ensures.value c.find_first.ensures
