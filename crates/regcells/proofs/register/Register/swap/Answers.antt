use Rattle.std.proofs.Common.{rules}
use Rattle.regcells.proofs.register.Register.swap.Goals as goal

pub swap_as-requires : goal.swap_as-requires
swap_as-requires g c = (search rules, (search rules, (c.requires.cell, c.requires.rule)))
