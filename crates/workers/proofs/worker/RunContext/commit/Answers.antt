-- At most as many turns are appended as the batch had.
use Rattle.std.proofs.Common.{length, ◌∙◌, ap, arith, refl, sym, subst}
use Rattle.commitgate.specs.Seats.{SeatView}
use Rattle.regcells.specs.Meetings.{HaveGrown}
use Rattle.workers.proofs.Batching.{fills_goes}
use Rattle.workers.proofs.Seats.{goes_then}
use Rattle.workers.proofs.Told.{answers_go, answers_rise, few_answers, none_left}
use Rattle.workers.proofs.Kept.{all_settled}
use Rattle.workers.proofs.worker.RunContext.commit.Goals as goal

pub returns-clause-fills : goal.returns-clause-fills
returns-clause-fills g c =
    let told = answers_go g.K.Naming.named _ _ _ _ _ _ c.commit_all.ensures.answered in
    let few = told.1 in
    let left = ap (λ tickets. length tickets.items) c.settle_all.ensures.tickets in
    fills_goes _ _ _ 0 told.0 _ (goes_then told.0 told.0 _ _ _ told.2 c.settle_all.ensures.goes) (omega (arith, few, left)) c.settle_all.ensures.puts refl refl

pub settle_all-requires-clause-few : goal.settle_all-requires-clause-few
settle_all-requires-clause-few g c =
    let few = few_answers g.K.Naming.named _ _ _ _ _ _ c.commit_all.ensures.answered in
    let most = c.requires.few in
    omega (arith, few, most)

pub returns-clause-empty : goal.returns-clause-empty
returns-clause-empty g c goes_on = ap (λ tickets. tickets.items) c.settle_all.ensures.tickets ∙ none_left _ _ c.commit_all.ensures.end (c.settle_all.ensures.settled goes_on)

pub returns-clause-few : goal.returns-clause-few
returns-clause-few g c =
    let told = answers_go g.K.Naming.named _ _ _ _ _ _ c.commit_all.ensures.answered in
    let few = told.1 in
    let left = ap (λ tickets. length tickets.items) c.settle_all.ensures.tickets in
    omega (arith, few, left)

pub returns-clause-rises : goal.returns-clause-rises
returns-clause-rises g c goes_on =
    subst (λ (s : SeatView). HaveGrown c.args.worker.now.seat.fresh s.fresh) (sym (c.settle_all.ensures.kept goes_on))
    (answers_rise g.K.Naming.named _ _ _ _ _ _ c.commit_all.ensures.answered)

pub returns-clause-keeps : goal.returns-clause-keeps
returns-clause-keeps g c goes_on rest =
    let is = c.settle_all.ensures.settled goes_on in record {
      all = λ placed k.
          all_settled g.K.Naming.named placed c.args.worker.now.seat _ c.settle_all.new.seat c.args.worker.now.owner c.settle_all.new.owner c.args.worker.now.row.items _ _ _ _ rest c.commit_all.ensures.answered is
          (none_left _ _ c.commit_all.ensures.end is) (c.settle_all.ensures.kept goes_on) (c.settle_all.ensures.all goes_on) c.settle_all.ensures.puts.1 k;
    }
