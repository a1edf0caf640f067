-- The objects are those of the vector.
use Rattle.std.proofs.Common.{◌≢◌, List, subst}
use Rattle.std.specs.List.{AllPairs}
use Rattle.std.specs.Result.{IfErr, OnOk}
use Rattle.sizing.specs.declared.environment.Object.{Object}
use Rattle.design_scopes.specs.Flat.{variable_names, IsToldSame}
use Rattle.design_scopes.proofs.scoped.ScopedDesign.refuse_same_names.Goals as goal

pub returns-clause-apart : goal.returns-clause-apart
returns-clause-apart c =
    subst (λ (objects : List Object). OnOk c.refuse_same_names.result (AllPairs (λ a b. a ≢ b) (variable_names objects))) c.as_slice.ensures.value c.refuse_same_names.ensures.apart

pub returns-clause-fault : goal.returns-clause-fault
returns-clause-fault c =
    subst (λ (objects : List Object). IfErr c.refuse_same_names.result (λ told. IsToldSame objects told)) c.as_slice.ensures.value c.refuse_same_names.ensures.fault
