use Rattle.std.proofs.Common.{rules, sym, ◌∙◌, ap}
use Rattle.regcells.proofs.Moves.{informs}
use Rattle.regcells.proofs.register.Register.inform.Goals as goal

pub join_pass-requires : goal.join_pass-requires
join_pass-requires c = (search rules, (search rules, ((ap (λ n. n.cell) c.requires.all, c.requires.note, c.requires.plain), informs _ _ _ _)))
