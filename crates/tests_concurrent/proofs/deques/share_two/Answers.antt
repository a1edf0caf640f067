use Rattle.std.proofs.Common.{◌∙◌}
use Rattle.eventpool.proofs.Cards.{pool_kept}
use Rattle.tests_concurrent.proofs.deques.share_two.Goals as goal

pub close-tally-requires : goal.close-tally-requires
close-tally-requires g c =
    pool_kept c.in_ok-owners.owners.items c.take_at-2.new.owners.items c.in_ok-owners.thieves.items c.steal_at-second.new.rows.items
    (c.take_at-2.ensures ∙ c.take_at.ensures ∙ c.fill-all.ensures) (c.steal_at-second.ensures ∙ c.steal_at-first.ensures) c.in_ok-owners.ensures.pool
