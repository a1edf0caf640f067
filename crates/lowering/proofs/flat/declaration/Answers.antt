use Rattle.lowering.proofs.Modules.{declared_is}
use Rattle.lowering.proofs.flat.declaration.Goals as goal

pub returns : goal.returns
returns c = declared_is c.args.range c.new-names.result.items c.push.new.self.items c.in_ok-name.name c.args.name.now c.in_ok-push.ensures.items c.new-names.ensures.items c.in_ok-name.ensures.ok
