-- What stands before the name in the scope and a dot is the scope's name.
use Rattle.std.proofs.Common.{◌∙◌}
use Rattle.waves.proofs.FullNameLaws.{scope_is}
use Rattle.waves.proofs.full_names.scope_of.Goals as goal

pub returns : goal.returns
returns c = c.without_own.ensures ∙ scope_is c.args.name.now c.own_name.result.now c.own_name.ensures
