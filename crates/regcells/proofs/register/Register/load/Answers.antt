use Rattle.std.proofs.Common.{rules}
use Rattle.regcells.proofs.register.Register.load.Goals as goal

pub load_as-requires : goal.load_as-requires
load_as-requires g c = (search rules, (search rules, (c.requires.cell, c.requires.rule)))
