-- At first all of the name is left.
use Rattle.std.proofs.Common.{true, false, sym}
use Rattle.waves.proofs.FullNameLaws.{own_is}
use Rattle.waves.proofs.full_names.own_name.Goals as goal

pub loop-left-init : goal.loop-left-init
loop-left-init c = sym (own_is false true c.args.name.now c.args.name.now)
