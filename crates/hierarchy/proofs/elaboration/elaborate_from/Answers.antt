-- The names of a design that is finished are apart.
use Rattle.std.proofs.Common.{◌≢◌}
use Rattle.std.specs.List.{AllPairs}
use Rattle.design_scopes.specs.declared.scoped.ScopedDesign.{ScopedDesign}
use Rattle.design_scopes.specs.Flat.{variable_names}
use Rattle.hierarchy.proofs.Finished.{finished_as}
use Rattle.hierarchy.proofs.elaboration.elaborate_from.Goals as goal

pub returns : goal.returns
returns c =
    finished_as c.elaborate_tops-made.result c.finished.result tt c.elaborate_tops-made.new.self.design (λ (d : ScopedDesign). AllPairs (λ a b. a ≢ b) (variable_names d.objects.items))
    c.elaborate_tops-made.ensures c.finished.ensures
