use Rattle.std.proofs.Common.{sym, subst}
use Rattle.design.specs.ExpressionSteps.{IsOpOf}
use Rattle.turn.specs.Evaluate.{NamesDeclared}
use Rattle.turn.proofs.Values.{all_piece}
use Rattle.turn.proofs.running_turn.RunningTurn.compute.Goals as goal

pub compute-requires : goal.compute-requires
compute-requires g c =
    let n = g.R.RegReader.registers in
    subst (NamesDeclared n) (sym c.part.ensures) (all_piece (IsOpOf n) c.args.ops.now c.args.span c.requires)
