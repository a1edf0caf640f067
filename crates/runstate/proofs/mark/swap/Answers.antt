use Rattle.std.proofs.Common.{rules}
use Rattle.runstate.proofs.mark.swap.Goals as goal

pub swap_as-requires : goal.swap_as-requires
swap_as-requires g c = (search rules, (search rules, (c.requires.cell, c.requires.rule)))
