use Rattle.std.proofs.Common.{sym, ◌∙◌}
use Rattle.scopes.proofs.Lookups.{further_is}
use Rattle.scopes.proofs.finding.+find.Goals as goal

pub returns-in-Some-outwards : goal.returns-in-Some-outwards
returns-in-Some-outwards t c =
    further_is c.args.tree.now.scopes.items c.args.reach c.args.scope c.args.name.now c.args.tree.now.outer_first c.in-Some-outwards.outer c.find.result (sym c.in_default.is ∙ c.declared.ensures) c.in-Some-outwards.ensures.value c.find.ensures
