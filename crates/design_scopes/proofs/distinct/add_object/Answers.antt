-- The name of an object is added as it is.
use Rattle.std.proofs.Common.{refl, subst}
use Rattle.design_scopes.specs.Flat.{AddsNameOf}
use Rattle.design_scopes.proofs.NameSets.{object_added, object_there}
use Rattle.design_scopes.proofs.distinct.add_object.Goals as goal

pub returns-in-Some-clause-added : goal.returns-in-Some-clause-added
returns-in-Some-clause-added c =
    object_added c.add.result c.args.names.now.keys c.add.new.names.keys c.in-Some.name.now _ c.in-Some.ensures c.add.ensures

pub returns-in-Some-clause-found : goal.returns-in-Some-clause-found
returns-in-Some-clause-found c =
    object_there c.add.result c.args.names.now.keys c.add.new.names.keys c.in-Some.name.now _ c.in-Some.ensures c.add.ensures

pub returns-in-None-clause-added : goal.returns-in-None-clause-added
returns-in-None-clause-added c =
    λ e. subst (AddsNameOf c.args.names.now.keys c.args.names.now.keys) c.in-None.ensures refl
