use Rattle.scopes.specs.Faults.{IsScopeFault}
use Rattle.design_scopes.proofs.Declaring.{told_why}
use Rattle.design_scopes.proofs.scoped.ScopedDesign.open.Goals as goal

pub returns-in-Err-clause-fault : goal.returns-in-Err-clause-fault
returns-in-Err-clause-fault c =
    told_why (λ f. IsScopeFault f c.args.self.now.tree.scopes.items c.args.around c.args.label.name.now) c.in-Err.fault c.args.label.token c.scope_fault.result c.in-Err.ensures.fault c.scope_fault.ensures
