use Rattle.design_scopes.specs.Designs.{full_name_at}
use Rattle.design_scopes.proofs.Declaring.{variable_added}
use Rattle.design_scopes.proofs.scoped.ScopedDesign.add_variable.Goals as goal

pub returns-clause-added : goal.returns-clause-added
returns-clause-added c =
    variable_added c.add.result c.args.self.now c.add.new.self (full_name_at c.args.self.now c.args.scope c.args.label.name.now) c.in_ok-name.name c.args.signed c.args.range c.in_ok-name.ensures c.add.ensures.added
