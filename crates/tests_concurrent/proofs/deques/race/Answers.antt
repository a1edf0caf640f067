use Rattle.std.proofs.Common.{refl}
use Rattle.eventpool.proofs.Cards.{pool_kept, row_back}
use Rattle.tests_concurrent.proofs.deques.race.Goals as goal

pub returns : goal.returns
returns g c =
    let j = c.join-owners.ensures in
    pool_kept c.args.owners.items c.join-owners.result.0.0.items c.args.thieves.items c.push-3.new.self.items j.first
    (row_back _ _ _ _ _ _ c.in_ok-three.ensures.items c.in-Ok-push-2.ensures.items j.second.2
    (row_back _ _ _ _ _ _ c.in_ok-two.ensures.items c.in-Ok-push.ensures.items j.second.1
    (row_back _ _ _ _ _ _ c.in_ok-one.ensures.items c.in-Ok.ensures.items j.second.0 refl)))
    c.requires
