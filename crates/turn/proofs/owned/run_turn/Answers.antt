use Rattle.std.proofs.Common.{sym, subst}
use Rattle.turn.specs.declared.log.FillFault.{FillFault}
use Rattle.turn.specs.declared.log.FillFault.TheVariants.{TooLong}
use Rattle.turn.specs.TurnAnswers.{IsNoTurn}
use Rattle.turn.proofs.owned.run_turn.Goals as goal

pub returns-in-Err-TooLong-clause-turn : goal.returns-in-Err-TooLong-clause-turn
returns-in-Err-TooLong-clause-turn g c =
    let code = c.args.design.now in
    let state = c.args.state.now in
    let turn = subst (λ (f : FillFault). IsNoTurn code state c.args.now c.fill_turn.new.log.reads f) c.in-Err-TooLong.field-0-is c.in-Err-TooLong.ensures.turn in
    subst (λ rs. IsNoTurn code state c.args.now rs TooLong) (sym c.into_reads.ensures) turn
