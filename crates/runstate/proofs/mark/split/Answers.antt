use Rattle.std.proofs.Common.{rules}
use Rattle.runstate.proofs.mark.split.Goals as goal

pub split_pass-requires : goal.split_pass-requires
split_pass-requires g c = (search rules, (search rules, (c.requires.cell, c.requires.rule)))
