-- What is asked of a turn that is too long was said of the ticket that comes back; and a ticket that was refused as often as it
-- may be goes back.
use Rattle.std.proofs.Common.{refl, rules, subst, sym, ap}
use Rattle.commitgate.specs.Tickets.{TicketView}
use Rattle.workers.specs.Batching.{IsLong}
use Rattle.workers.proofs.Batching.{fills_begun}
use Rattle.workers.proofs.Seats.{told, goes_then}
use Rattle.workers.proofs.Keeping.{puts_none}
use Rattle.workers.proofs.Hands.{keeps_offered, keeps_long, keeps_held}
use Rattle.workers.proofs.worker.RunContext.begin.Goals as goal

pub returns-in-Err-default-Memory-clause-fills : goal.returns-in-Err-default-Memory-clause-fills
returns-in-Err-default-Memory-clause-fills g c =
    fills_begun _ _ _ _ (goes_then 0 0 _ _ _ c.add.ensures.goes (told _ _ _ c.stop.ensures).0) (search rules) (search rules) (puts_none c.args.worker.now.owner c.args.worker.now.owner refl) refl

pub give_up-requires-clause-long : goal.give_up-requires-clause-long
give_up-requires-clause-long g c κs lives =
    let refused = c.in-Err-default-TooLong.ensures in
    subst (λ (ticket : TicketView). IsLong g.K.Naming.named c.add.new.batch ticket c.add.new.seat) (sym refused.added.1) (refused.long c.in-Err-default-TooLong.field-0-1-is)

pub returns-then-is_enough-clause-keeps : goal.returns-then-is_enough-clause-keeps
returns-then-is_enough-clause-keeps g c = keeps_offered g.K.Naming.named _ _ _ _ _ c.add.ensures.goes refl refl (search rules)

pub returns-else-is_enough-clause-keeps : goal.returns-else-is_enough-clause-keeps
returns-else-is_enough-clause-keeps g c = keeps_offered g.K.Naming.named _ _ _ _ _ c.add.ensures.goes refl refl (search rules)

pub returns-in-Err-default-TooLong-clause-keeps : goal.returns-in-Err-default-TooLong-clause-keeps
returns-in-Err-default-TooLong-clause-keeps g c =
    let refused = c.in-Err-default-TooLong.ensures in
    keeps_long g.K.Naming.named _ c.give_up.result _ _ _ _ _ _ _ _ c.after.ensures c.add.ensures.goes refl refl (ap (λ tickets. tickets.items) refused.added.0) refused.added.1 c.give_up.ensures.empty c.give_up.ensures.keeps

pub returns-else-tries-lt-MAX_TRIES-clause-keeps : goal.returns-else-tries-lt-MAX_TRIES-clause-keeps
returns-else-tries-lt-MAX_TRIES-clause-keeps g c =
    keeps_held g.K.Naming.named _ c.put-next.result _ _ _ _ c.after-else-tries-lt-MAX_TRIES.ensures c.put-next.ensures.kept c.put-next.ensures.all c.put-next.ensures.puts.1 refl
