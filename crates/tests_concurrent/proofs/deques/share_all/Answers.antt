use Rattle.std.proofs.Common.{refl}
use Rattle.eventpool.proofs.Cards.{pool_kept}
use Rattle.tests_concurrent.proofs.deques.share_all.Goals as goal

pub race-raced-requires-after_bounds : goal.race-raced-requires-after_bounds
race-raced-requires-after_bounds g c κs within = pool_kept c.in_ok-owners.owners.items c.fill-all.new.owners.items c.in_ok-owners.thieves.items c.in_ok-owners.thieves.items c.fill-all.ensures refl c.in_ok-owners.ensures.pool
