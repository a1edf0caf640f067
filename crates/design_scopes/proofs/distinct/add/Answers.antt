-- What is added is new.
use Rattle.design_scopes.proofs.NameSets.{added_name}
use Rattle.design_scopes.proofs.distinct.add.Goals as goal

pub returns : goal.returns
returns c =
    added_name c.args.names.now.keys c.insert.new.self.keys c.args.name _ c.in_ok-insert.ensures.added c.in_ok-insert.ensures.keys
