use Rattle.std.proofs.Common.{◌∙◌, arith, length-set, rules, refl, inl, inr}
use Rattle.workers.proofs.Joining.{no_items}
use Rattle.workers.proofs.Placing.{gets_none, gets_more, gets_all}
use Rattle.workers.proofs.Rounds.{fixed_put}
use Rattle.workers.proofs.team.place.Goals as goal

pub loop-ticket-init : goal.loop-ticket-init
loop-ticket-init g c = (search rules, search rules, search rules, search rules, gets_none _ _ _ _ (search rules))

pub loop-ticket-preserved-then-next-workers : goal.loop-ticket-preserved-then-next-workers
loop-ticket-preserved-then-next-workers g c = (
  length-set c.loop-ticket.owners.items c.loop-ticket.next c.put.new.self ∙ c.loop-ticket.invariant.0,
  c.if-next-workers.true,
  fixed_put _ _ _ _ _ _ c.index_mut.ensures.value c.in-Ok.ensures.put c.loop-ticket.invariant.2,
  c.loop-ticket.invariant.3,
  gets_more _ _ _ _ _ _ _ _ _ _ _ c.loop-ticket.invariant.3 c.loop-ticket.invariant.0 c.loop-ticket.invariant.1 (inl (refl, c.if-next-workers.true))
      c.in-Some.ensures.steps.0 c.index_mut.ensures.value c.in-Ok.ensures.put c.loop-ticket.invariant.4,
)

pub loop-ticket-preserved : goal.loop-ticket-preserved
loop-ticket-preserved g c = (
  length-set c.loop-ticket.owners.items c.loop-ticket.next c.put.new.self ∙ c.loop-ticket.invariant.0,
  (let lt = c.loop-ticket.invariant.1 in omega arith),
  fixed_put _ _ _ _ _ _ c.index_mut.ensures.value c.in-Ok.ensures.put c.loop-ticket.invariant.2,
  c.loop-ticket.invariant.3,
  gets_more _ _ _ _ _ _ _ _ _ _ _ c.loop-ticket.invariant.3 c.loop-ticket.invariant.0 c.loop-ticket.invariant.1
      (inr (refl, (let lt = c.loop-ticket.invariant.1 in let ge = c.if-next-workers.false in omega arith)))
      c.in-Some.ensures.steps.0 c.index_mut.ensures.value c.in-Ok.ensures.put c.loop-ticket.invariant.4,
)

pub returns-clause-placed : goal.returns-clause-placed
returns-clause-placed g c = gets_all _ _ _ _ _ _ c.loop-ticket.invariant.3 (no_items c.loop-ticket.ticket-iterator c.in-None.ensures.steps.0) c.loop-ticket.invariant.4
